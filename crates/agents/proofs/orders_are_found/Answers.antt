-- An order exists exactly if trying leaves nobody, and exactly if everybody can go.
use Rattle.agents.proofs.Orders.{tries_exactly, tries_all_go}
use Rattle.agents.proofs.orders_are_found.Goals as goal

pub returns : goal.returns
returns c = λ n w. (tries_exactly n w, (λ r. (tries_all_go n w).0 ((tries_exactly n w).1 r), λ f. (tries_exactly n w).0 ((tries_all_go n w).1 f)))
