-- The bit of one shuttle, as the code makes it.
use Rattle.std.proofs.Common.{◌≡◌, ℕ, ◌*◌, ◌%◌, ◌^◌, ◌<◌, ◌≤◌, arith}
use Rattle.std.proofs.lemmas.Nat.{one_shl, pow_below}

pub bit_is : (i n : ℕ) → i < n → n ≤ 16 → 1 * 2 ^ i % 65536 ≡ 2 ^ i
bit_is i n l few = one_shl i 16 (omega arith)

pub bit_small : (i n : ℕ) → i < n → n ≤ 16 → 2 ^ i < 2 ^ 16
bit_small i n l few = pow_below i 16 (omega arith)
