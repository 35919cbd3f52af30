-- A FORMAT BEGINS A HISTORY, and after any start that had power it can be called again. Assumes nothing.
use mathlib.Core.Path.{◌≡◌, refl, ◌∙◌, subst}
use mathlib.Core.Logic.{◌≢◌, ◌⊎◌, inl, inr}
use mathlib.Core.List.{List, []}
use mathlib.Core.Bool.{Bool, true, false, not, ◌&&◌}
use Prim.Native.Nat.{ℕ, ◌*◌, ◌<◌}
use native.Mathlib.Omega.{arith}
use lib.Dec.{leb}
use lib.ListN.{length}
use borrow.Author.Tests.{ne_eqb}
use Rattle.chip.specs.Play.{Did}
use Rattle.chip.proofs.Plays.{did_length}
use Rattle.ring_log.specs.Map.{Map}
use Rattle.ring_log.specs.Ring.{chip_of, head, ring_test, room}
use Rattle.ring_log.specs.Answers.{refuse, refused, done, start_answer, format_answer}
use Rattle.ring_log.specs.Answers.{Answer as Says}
use Rattle.lent.specs.Area.{blocks_of, Sized, map_in, mark, lent_of, lent_to_start}
use Rattle.start.specs.Started.{StartsBy, StartEnds}
use Rattle.format.specs.Formatted.{FormatsBy, FormatEnds}
use Rattle.lent.specs.Ended.{Answer, Done, Refused}
use Rattle.lent.proofs.Numbers.{sizes_hold, done≢refused}
use Rattle.histories.specs.History.{off, History, begin}
use Rattle.histories.proofs.Histories.{sized_after}

-- DONE, A HISTORY BEGINS
pub format_begins : (B : ℕ) (noise c : List ℕ) (f : ℕ) (w c' : List ℕ) (f' : ℕ) (w' : List ℕ) (i : ℕ) → length c ≡ 4096 * B → Did (blocks_of c) 0 noise c f c' f'
    → FormatEnds c f w c' f' w' (Done i) → History B off c' 0 0 [] × (0 < f')
format_begins B noise c f w c' f' w' i z d e = go (format_answer (lent_of c f w)) e.ends
  where
    size : length c' ≡ 4096 * B
    size = did_length d ∙ z

    go : (s : Says (Map (List ℕ))) → FormatsBy c f w c' f' w' s (Done i) → History B off c' 0 0 [] × (0 < f')
    go (refused k) t = absurd (done≢refused i k t.0)
    go (done m) (inl (er, lit, marked, blank, map)) = (begin c' size (λ p l. blank p (omega (arith, size))), lit)
    go (done m) (inr t) = absurd (done≢refused i 7 t.0)

-- ---- AFTER A START THAT HAD POWER

-- the mark of its area is 0 or 1
mark_after : (c : List ℕ) (f : ℕ) (w w' : List ℕ) (r : Answer) → Sized c w → 0 < f → StartEnds c f w w' r → mark w' ≢ 2
unfolding refuse
mark_after c f w w' r s l e =
    let unread : Bool = not (ring_test (blocks_of c) (chip_of c) (head (blocks_of c) (chip_of c)) && leb (length (map_in c)) (room (blocks_of c))) in
    let q : start_answer (lent_to_start c f w) (chip_of c) ≡ refuse 8 unread (done (map_in c)) = rw (sizes_hold c w s, ne_eqb f 0 (λ e. omega arith)) in
    go unread (map_in c) (subst (λ (t : Says (Map (List ℕ))). StartsBy c w w' t r) q e.ends)
  where
    go : (b : Bool) (m : Map (List ℕ)) → StartsBy c w w' (refuse 8 b (done m)) r → mark w' ≢ 2
    go true m (er, x, y) z = omega (arith, y refl)
    go false m (er, marked, holds) z = omega arith

-- IT CAN BE CALLED AGAIN
pub format_again : (c : List ℕ) (f : ℕ) (w w' : List ℕ) (r : Answer) → Sized c w → 0 < f → StartEnds c f w w' r
    → (g : ℕ) (c'' : List ℕ) (g' : ℕ) (w'' : List ℕ) (r' : Answer) → 0 < g → FormatEnds c g w' c'' g' w'' r' → (r' ≡ Done 0) ⊎ ((r' ≡ Refused 7) × (g' ≡ 0))
unfolding refuse
format_again c f w w' r s l e g c'' g' w'' r' k d =
    let q : format_answer (lent_of c g w') ≡ done [] =
    rw (sizes_hold c w' (sized_after c w c w' s refl e.size), ne_eqb g 0 (λ e. omega arith), ne_eqb (mark w') 2 (mark_after c f w w' r s l e)) in
    go (subst (λ (t : Says (Map (List ℕ))). FormatsBy c g w' c'' g' w'' t r') q d.ends)
  where
    go : FormatsBy c g w' c'' g' w'' (done []) r' → (r' ≡ Done 0) ⊎ ((r' ≡ Refused 7) × (g' ≡ 0))
    go (inl t) = inl t.0
    go (inr t) = inr (t.0, t.1)
