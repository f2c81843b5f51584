-- Lemmas behind the contracts.
mod Backwards
mod Digits
mod Led
mod Letters
mod Naming
mod Opening
mod Reading
mod Signs
mod Taking
mod Told
mod Turns
