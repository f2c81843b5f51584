-- The number of all digits is that of those so far and those that are left.
use Rattle.std.proofs.Common.{◌≡◌, ◌≤◌, drop}
use Rattle.session.specs.Numbers.{number_after}
use Rattle.session.proofs.numbers.read_number.Given as goal

abbrev pub invariant-loop-digit : goal.invariant-loop-digit
invariant-loop-digit l = record {
  same : number_after l.number (drop l.digit-index l.word) ≡ number_after 0 l.word;
  most : l.number ≤ 65535;
}
