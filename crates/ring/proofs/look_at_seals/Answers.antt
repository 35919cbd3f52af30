use mathlib.Core.Path.{◌≡◌, refl, sym, ap, ◌∙◌}
use native.Mathlib.Omega.{arith}
use Rattle.ring_log.specs.Ring.{chip_of, sealed}
use Rattle.ring.specs.Seals.{counted}
use Rattle.ring.proofs.Scan.{ones, one_not, counted_le, counted_first, counted_next, head_begins, pick_turn, pick_end, pick_inside, sealed_on}
use Rattle.ring.proofs.look_at_seals.Goals as goal

pub loop-x-init : goal.loop-x-init
loop-x-init c = let k = chip_of c.args.chip.now in
    (omega arith, c.sealed-first.ensures, head_begins k c.args.b, counted_first (λ y. sealed k y) _ _ c.sealed-first.ensures (omega (arith, ones c.sealed-first.result)))

pub overflow_add-count : goal.overflow_add-count
overflow_add-count c =
    omega (arith, c.loop-x.invariant.3, counted_le (λ y. sealed (chip_of c.args.chip.now) y) c.loop-x.x, ones c.sealed-here.result, one_not c.sealed-here.result)

pub loop-x-preserved : goal.loop-x-preserved
loop-x-preserved c = let k = chip_of c.args.chip.now in (
  omega (arith, c.head_by-head.ensures, pick_inside k c.loop-x.head c.loop-x.x c.loop-x.before c.sealed-here.result c.loop-x.invariant.0),
  sealed_on k c.loop-x.x _ c.sealed-here.ensures,
  c.loop-x.invariant.2 ∙ pick_turn k c.args.b c.loop-x.x c.loop-x.head c.loop-x.before c.sealed-here.result (omega arith) (omega arith) c.loop-x.invariant.1 c.sealed-here.ensures _ c.head_by-head.ensures,
  counted_next (λ y. sealed k y) c.loop-x.x c.loop-x.count _ _ c.loop-x.invariant.3 c.sealed-here.ensures (omega (arith, ones c.sealed-here.result)),
)

pub returns : goal.returns
returns c = let k = chip_of c.args.chip.now in let z : c.loop-x.x ≡ c.args.b = omega arith in
    record {
      blocks = refl;
      inside = omega (arith, c.loop-x.invariant.0);
      is_head = sym (c.loop-x.invariant.2 ∙ pick_end k c.args.b c.loop-x.x c.loop-x.head z);
      is_first = c.sealed-first.ensures;
      all_of_them = c.loop-x.invariant.3 ∙ ap (counted (λ y. sealed k y)) z;
    }
