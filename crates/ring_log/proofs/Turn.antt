-- The ring moves on by one block: the table is that of the run in memory, but for the numbers of the places where the ring begins anew.
-- Pages, values, count and ages are the same.
-- Assumes nothing.
use mathlib.Core.Path.{◌≡◌, refl, sym, ap, ◌∙◌}
use mathlib.Core.Logic.{◌⊎◌, inl, inr}
use mathlib.Core.List.{List, [], ◌∷◌}
use mathlib.Core.Bool.{true, false, cond}
use Prim.Native.Nat.{ℕ, suc, ◌+◌, ◌*◌, ◌%◌, ◌≤◌, ◌<◌}
use native.Mathlib.Omega.{arith}
use lib.Dec.{leb}
use lib.ListN.{length}
use Rattle.ring_log.specs.Map.{Map, total, map_v}
use Rattle.ring_log.specs.Log.{Placed, oldest, run, bytes, pages}
use Rattle.ring_log.specs.Ring.{Chip, sealed, spare, Later, Ring, table}
use Rattle.ring_log.specs.Call.{Page}
use Rattle.ring_log.specs.Wear.{age, ages, ripe, ripes}
use Rattle.ring_log.specs.Opening.{Fresh, From}
use Rattle.ring_log.proofs.MapMore.{length_map_v}
use Rattle.ring_log.proofs.Window.{page_round, spare_cases}
use Rattle.ring_log.proofs.LogLaws.{up}
use Rattle.ring_log.proofs.Steps.{Free, run_trim, run_drop, run_up, table_at_lem, seal_run, seal_ring}

module _ (B : ℕ) where
  -- m is the map of the run, m' the table: the head's number is now one more, or that less B
  abbrev pub Turned : ℕ → Map Placed → Map Placed → Type 0
  Turned h m m' = ((m' ≡ m) × (spare B h + B ≡ h + B + 1)) ⊎ ((m ≡ map_v (up B) m') × (B + (spare B h + B) ≡ h + B + 1))

  up_pages : (m : Map Placed) → pages B (map_v (up B) m) ≡ pages B m
  up_pages [] = refl
  up_pages (p ∷ m) = λ i. page_round B p.1.0 i ∷ up_pages m i

  up_bytes : (m : Map Placed) → bytes (map_v (up B) m) ≡ bytes m
  up_bytes [] = refl
  up_bytes (p ∷ m) = ap (λ (l : Map (List ℕ)). (p.0, p.1.1) ∷ l) (up_bytes m)

  up_total : (f g : Placed → ℕ) → ((a : Placed) → f (up B a) ≡ g a) → (m : Map Placed) → total f (map_v (up B) m) ≡ total g m
  up_total f g h [] = refl
  up_total f g h (p ∷ m) = omega (arith, h p.1, up_total f g h m)

  up_age : (e n : ℕ) (a : Placed) → age (B + e) n (up B a) ≡ age e n a
  up_age e n a = omega arith

  module _ (h : ℕ) (m m' : Map Placed) where
    -- the index is the same
    pub turned_pages : Turned h m m' → pages B m' ≡ pages B m
    turned_pages (inl (e, q)) = ap (pages B) e
    turned_pages (inr (e, q)) = sym (ap (pages B) e ∙ up_pages m')

    -- so are the values
    pub turned_bytes : Turned h m m' → bytes m' ≡ bytes m
    turned_bytes (inl (e, q)) = ap bytes e
    turned_bytes (inr (e, q)) = sym (ap bytes e ∙ up_bytes m')

    -- so is the count
    pub turned_length : Turned h m m' → length m' ≡ length m
    turned_length (inl (e, q)) = ap length e
    turned_length (inr (e, q)) = sym (ap length e ∙ length_map_v (up B) m')

    -- so are the ages, seen from the new head
    pub turned_ages : (n : ℕ) → Turned h m m' → ages (spare B h + B) n m' ≡ ages (h + B + 1) n m
    turned_ages n (inl (e, q)) = ap (λ (x : ℕ). ages x n m') q ∙ ap (ages (h + B + 1) n) e
    turned_ages n (inr (e, q)) =
        sym (ap (ages (h + B + 1) n) e
        ∙ ap (λ (x : ℕ). ages x n (map_v (up B) m')) (sym q)
        ∙ up_total (age (B + (spare B h + B)) n) (age (spare B h + B) n) (up_age (spare B h + B) n) m')

    -- and the values older than w
    pub turned_ripes : (w n : ℕ) → Turned h m m' → ripes w (spare B h + B) n m' ≡ ripes w (h + B + 1) n m
    turned_ripes w n (inl (e, q)) = ap (λ (x : ℕ). ripes w x n m') q ∙ ap (ripes w (h + B + 1) n) e
    turned_ripes w n (inr (e, q)) =
        sym (ap (ripes w (h + B + 1) n) e
        ∙ ap (λ (x : ℕ). ripes w x n (map_v (up B) m')) (sym q)
        ∙ up_total (ripe w (B + (spare B h + B)) n) (ripe w (spare B h + B) n) (λ a. ap (λ (x : ℕ). cond (leb (suc w) x) 1 0) (up_age (spare B h + B) n a)) m')

module _ (B : ℕ) (big : 4 ≤ B) (c c' : Chip) (h s : ℕ) (r : Ring B c h) (w : Page (16 * h + 15) c c') where
  -- THE SEAL moves the ring on: if no value stands in the oldest block, the table is that of the run up to s, the end of the copies
  pub seal_turned : sealed c' h ≡ true → sealed c (spare B h) ≡ false → Later B c h ⊎ Fresh B c h
      → 15 * (h + B) + 15 ≤ s → s ≤ 15 * (h + B) + 30 → Free B c.recs s (15 * (h + B) + 30)
      → From (run B c.recs (h + B) s) (oldest B (h + B + 1))
      → Turned B h (run B c.recs (h + B) s) (table B c')
  seal_turned on blank k a b f rows = go (spare_cases B h r.inside)
    where
      -- all that memory knows, seen from the next head
      moved : run B c.recs (h + B) s ≡ run B c.recs (h + B + 1) (15 * (h + B) + 30)
      moved =
          run_drop B c.recs (h + B) s (omega arith) (omega arith) rows
          ∙ sym (run_trim B c.recs (h + B + 1) s (15 * (h + B) + 30) (omega arith) b f)

      seen : table B c' ≡ run B c.recs (spare B h + B) (15 * (spare B h + B) + 15)
      seen =
          table_at_lem B big c' (spare B h) (seal_ring B big c c' h r w on blank k)
          ∙ seal_run B big c c' h r w (spare B h + B) (15 * (spare B h + B) + 15)

      go : ((h + 1 < B) × ((h + 1) % B ≡ h + 1)) ⊎ ((h + 1 ≡ B) × ((h + 1) % B ≡ 0)) → Turned B h (run B c.recs (h + B) s) (table B c')
      go (inl (l, q)) =
          let x : spare B h + B ≡ h + B + 1 = omega arith in
          let y : 15 * (h + B + 1) + 15 ≡ 15 * (h + B) + 30 = omega arith in
          inl (seen ∙ ap (λ (z : ℕ). run B c.recs z (15 * z + 15)) x ∙ ap (run B c.recs (h + B + 1)) y ∙ sym moved, x)
      go (inr (l, q)) =
          let x : B + (spare B h + B) ≡ h + B + 1 = omega arith in
          let y : 15 * B + (15 * (spare B h + B) + 15) ≡ 15 * (h + B) + 30 = omega arith in
          inr (
            moved
                ∙ ap (λ (z : ℕ). run B c.recs z (15 * (h + B) + 30)) (sym x)
                ∙ ap (run B c.recs (B + (spare B h + B))) (sym y)
                ∙ run_up B c.recs (spare B h + B) (15 * (spare B h + B) + 15) (omega arith) (omega arith)
                ∙ ap (map_v (up B)) (sym seen),
            x,
          )
