-- THE INDEX IN AN OPENING, as an array holds it: it begins with the table's, and a copy replaces one entry. (After the seal: `opening_ready`.) Assumes nothing.
use mathlib.Core.Path.{◌≡◌, refl, sym, ap, ◌∙◌}
use mathlib.Core.Option.{some}
use Prim.Native.Nat.{ℕ, suc, ◌+◌, ◌≤◌, ◌<◌}
use native.Mathlib.Omega.{arith}
use lib.ListN.{length, set}
use Rattle.record.specs.Record.{Rec}
use Rattle.ring_log.specs.Key.{Key}
use Rattle.ring_log.specs.Map.{lookup}
use Rattle.ring_log.specs.Log.{Placed, placed, page_of, oldest, run, pages}
use Rattle.ring_log.specs.Ring.{Chip, spare, Ring, table}
use Rattle.ring_log.specs.Call.{Block}
use Rattle.ring_log.specs.Opening.{key_at, Opening, fresh}
use Rattle.ring_log.proofs.Clean.{run_sorted}
use Rattle.ring_log.proofs.Index.{pages_replace}
use Rattle.ring_log.proofs.Steps.{Written, block_run, table_at_lem}
use Rattle.ring_log.proofs.Opening.{grown}

module _ (B : ℕ) (big : 4 ≤ B) (h : ℕ) where
  -- ---- AN OPENING BEGINS: the run is the table, whether the spare was erased or, in the first round, left as it was
  pub erased_keeps : (c c' : Chip) → Ring B c h → Block (spare B h) c c' → pages B (run B c'.recs (h + B) (fresh B h)) ≡ pages B (table B c)
  erased_keeps c c' r w = ap (pages B) (block_run B big c c' h r w (fresh B h) (omega arith) ∙ sym (table_at_lem B big c h r))

  pub first_keeps : (c : Chip) → Ring B c h → pages B (run B c.recs (h + B) (fresh B h)) ≡ pages B (table B c)
  first_keeps c r = ap (pages B) (sym (table_at_lem B big c h r))

  -- ---- A COPY of the value whose key stands at i: its page in the spare replaces the one there
  pub copy_replaces : (c₀ c c' : Chip) (t s : ℕ) (r : Rec) (a : Placed) (low : oldest B (h + B) ≤ t) (l : t < oldest B (h + B) + 15) (at : c.recs (page_of B t) ≡ some r)
      (live : lookup r.key (run B c.recs (h + B) s) ≡ some a) (stands : a.0 ≡ t) (o : Opening B h c₀ c t s)
      → r.what ≡ some a.1 → Written B s r c c' → (d : Key × Placed) (i : ℕ) → i < length (run B c.recs (h + B) s) → r.key ≡ key_at d (run B c.recs (h + B) s) i
      → pages B (run B c'.recs (h + B) (suc s)) ≡ set (pages B (run B c.recs (h + B) s)) i (page_of B s)
  copy_replaces c₀ c c' t s r a low l at live stands o q w d i b k =
      ap (pages B) (grown B big h c₀ c c' t s r r a low l at live stands o refl q w)
      ∙ pages_replace B d r.key (run B c.recs (h + B) s) i (placed s a.1) (run_sorted B c.recs (h + B) s) b k
