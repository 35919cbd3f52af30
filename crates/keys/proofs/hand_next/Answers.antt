-- `keys::hand_next` meets its contract. Assumes nothing.
use Rattle.keys.proofs.After.{hands_after}
use Rattle.keys.proofs.hand_next.Goals as goal

pub returns-in-Ok-clause-right : goal.returns-in-Ok-clause-right
returns-in-Ok-clause-right c = hands_after c.args.chip.now c.args.index.now c.args.key.now _ _ _ _ c.in-Ok.ensures.right c.hand_key.ensures.right
