-- `sweep::pass` meets its contract. Assumes nothing.
use Rattle.clean.proofs.Judge.{judged_at, page_read}
use Rattle.sweep.proofs.Passes.{pass_on, pass_carried}
use Rattle.sweep.proofs.pass.Goals as goal

pub returns-in-Some-clause-right : goal.returns-in-Some-clause-right
returns-in-Some-clause-right c = pass_carried _ c.requires.sane.some_blocks _ _ _ c.requires.sane.size _ _ _ _ _ _ c.requires.places.0 c.requires.places.1 c.page_at_log-q.ensures.right _ _ c.in-Some.ensures.within (page_read c.bytes-in-Some.ensures _ c.page_at-page.ensures) (judged_at c.bytes.ensures c.in-Some.ensures.right) _ _ _ _ c.carry.ensures.right

pub returns-in-None-clause-right : goal.returns-in-None-clause-right
returns-in-None-clause-right c = pass_on _ c.requires.sane.some_blocks _ _ _ c.requires.sane.size _ _ _ _ _ _ c.requires.places.0 c.requires.places.1 c.page_at_log-q.ensures.right (judged_at c.bytes.ensures c.in-None.ensures.right)
