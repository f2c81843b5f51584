-- A word that is the longest name, and one that is none.
use Rattle.std.proofs.Common.{◌≡◌, codes, arith, rules}
use Rattle.std.proofs.lemmas.Slice.Eq.{text_from_reads}
use Rattle.text.specs.Lines.{pieces}
use Rattle.session.specs.Commands.{arrive}
use Rattle.session.proofs.Naming.{long, byte, unknown}
use Rattle.session.proofs.commands.command_of.Goals as goal

pub returns-in-arrive : goal.returns-in-arrive
returns-in-arrive c =
    let is : c.args.word.now ≡ codes "arrive" = text_from_reads c.args.word.now (codes "arrive") (omega arith) (search rules) in
    let shuttle = c.read_event-in-arrive.ensures arrive in
    rw is (search rules)

pub returns-in_default : goal.returns-in_default
returns-in_default c =
    unknown c.args.word.now (pieces c.args.words.now)
    (λ e. grind (arith, long e, byte 0 e, byte 1 e, byte 2 e, byte 3 e, byte 4 e))
    (λ e. grind (arith, long e, byte 0 e, byte 1 e, byte 2 e, byte 3 e))
    (λ e. grind (arith, long e, byte 0 e, byte 1 e, byte 2 e, byte 3 e, byte 4 e, byte 5 e))
    (λ e. grind (arith, long e, byte 0 e, byte 1 e, byte 2 e))
    (λ e. grind (arith, long e, byte 0 e, byte 1 e, byte 2 e, byte 3 e))
    (λ e. grind (arith, long e, byte 0 e, byte 1 e, byte 2 e, byte 3 e))
