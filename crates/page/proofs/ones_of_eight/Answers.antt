-- `page::ones_of_eight` meets its contract. Assumes nothing.
use Rattle.page.proofs.Adding.{add_eight}
use Rattle.page.proofs.ones_of_eight.Goals as goal

pub returns : goal.returns
returns c =
    add_eight c.args.a c.args.b c.args.c c.args.d c.args.e c.args.f c.args.g c.args.h _ _ _ _ _ _ _ _ _
    c.twos-t.ensures c.odds-o.ensures c.twos-u.ensures c.odds-p.ensures c.twos-v.ensures c.odds-q.ensures c.twos.ensures
    c.odds.ensures c.weigh.ensures
