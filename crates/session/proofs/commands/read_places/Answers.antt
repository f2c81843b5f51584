-- The square of each word.
use Rattle.std.proofs.Common.{◌≡◌, [], vec_items, ◌∙◌, rules}
use Rattle.std.specs.Option.{option_map}
use Rattle.std.proofs.lemmas.Result.{IfOk-weaker}
use Rattle.text.specs.Lines.{pieces}
use Rattle.text.specs.Gathered.{gathered}
use Rattle.session.specs.Numbers.{place_in}
use Rattle.session.proofs.Reading.{gathered_pieces}
use Rattle.session.proofs.commands.read_places.Goals as goal

pub returns : goal.returns
returns c =
    IfOk-weaker c.gather.result (λ o. option_map vec_items o ≡ gathered (λ r. place_in r.now) [] c.args.words.now)
    (λ o. option_map vec_items o ≡ gathered place_in [] (pieces c.args.words.now)) (λ o is. is ∙ gathered_pieces place_in [] c.args.words.now)
    (c.gather.ensures (λ r. place_in r.now) (λ x r k. search rules))
