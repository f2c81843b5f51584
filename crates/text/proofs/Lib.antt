-- Lemmas behind the contracts.
mod Cutting
mod Reading
mod Making
mod Verdicts
