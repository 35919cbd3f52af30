-- The loops of `read` and `lay`: one store a turn, from the front. Assumes nothing.
use mathlib.Core.Path.{◌≡◌, sym, ap, ◌∙◌}
use mathlib.Core.List.{List}
use Prim.Native.Nat.{ℕ, ◌+◌, ◌≤◌, ◌<◌}
use native.Mathlib.Omega.{arith}
use lib.ListN.{length, set, get_or}
use Rattle.std.proofs.lemmas.List.Edits.{fill_by_more}
use Rattle.page.specs.Page.{byte, each}
use Rattle.page.proofs.Cut.{length_each, byte_each}
use Rattle.page.proofs.Grow.{grown, grown_more, grown_all, grown_ahead}

module _ (f : ℕ → ℕ → ℕ) (d s l : List ℕ) (i : ℕ) (long : length d ≤ length s) where
  pub each_turn : i < length d → l ≡ grown i (each f d s) d → (j v : ℕ) → v ≡ f (byte l i) (byte s j) → j ≡ i → set l i v ≡ grown (i + 1) (each f d s) d
  each_turn h e j v w q =
      let n : length (each f d s) ≡ length d = length_each f d s in
      grown_more i _ d l _ e
      (w ∙ ap (λ (k : ℕ). f (byte l i) (byte s k)) q ∙ ap (λ (x : ℕ). f x (byte s i)) (grown_ahead i _ d l e (omega arith)) ∙ sym (byte_each f d s i h (omega arith))) (omega arith) h

  pub each_end : i ≡ length d → l ≡ grown i (each f d s) d → l ≡ each f d s
  each_end q e = grown_all i _ d l e (length_each f d s ∙ sym q) (sym q)

-- what is read: the byte of c that place i has to hold stands at place j, however j is written
pub read_turn : (c l : List ℕ) (a i : ℕ) → i < length l → ((k : ℕ) → k < i → get_or l k 0 ≡ get_or c (a + k) 0) → (j : ℕ) → j ≡ a + i → (k : ℕ) → k < i + 1 → get_or (set l i (get_or c j 0)) k 0 ≡ get_or c (a + k) 0
read_turn c l a i m h j q k b = ap (λ (n : ℕ). get_or (set l i (get_or c n 0)) k 0) q ∙ fill_by_more (λ (n : ℕ). get_or c (a + n) 0) l i 0 m h k b
