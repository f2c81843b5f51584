-- The definitions of the rules, to be unfolded together where an example computes.
use Rattle.rules.specs.Tests.{every_to, any_to, every, among, is_empty}
use Rattle.rules.specs.Field.{is_bay_to, is_bay, free_square, bay_ok, sound, beside}
use Rattle.rules.specs.Route.{step_ok, route_ok}
use Rattle.rules.specs.Shuttle.{holds, held_by_other, put, at_home, ordered, next_square, stepped_to, stepped, arrived}
use Rattle.rules.specs.Safe.{clear_of, all_to, Safe, without, first_clear, on_first, try, safe}
use Rattle.rules.specs.Event.{takes, grants, arrives, does, who, becomes, happens, after}
use Rattle.rules.specs.Memory.{field_in, field_ok, shuttle_in, shuttle_ok, memory_ok, event_ok, event_in, refusal, mark, numbers_of, stored}
use Rattle.examples.specs.Hall.{each_happens}
use Rattle.examples.specs.Orders.{back_and_forth}
use Rattle.examples.specs.Numbers.{zeros}
use Rattle.examples.specs.Wrong.{pass, safe_in_one_pass}

unfoldable pub rules : Unit {0}
unfolding every_to any_to every among is_empty is_bay_to is_bay free_square bay_ok sound beside step_ok route_ok
    holds held_by_other put at_home ordered next_square stepped_to stepped arrived
    clear_of all_to Safe without first_clear on_first try safe takes grants arrives does who becomes happens after
    field_in field_ok shuttle_in shuttle_ok memory_ok event_ok event_in refusal mark numbers_of stored
    each_happens back_and_forth zeros pass safe_in_one_pass
rules = tt
