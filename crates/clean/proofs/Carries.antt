-- The page of a value is made anew at place k of block x. Assumes nothing.
use mathlib.Core.Path.{◌≡◌, refl, sym, ap, ◌∙◌, subst}
use mathlib.Core.List.{List}
use mathlib.Core.Option.{some}
use mathlib.Core.Bool.{true, false, not}
use Prim.Native.Nat.{ℕ, ◌+◌, ◌-◌, ◌*◌, ◌≤◌, ◌<◌}
use native.Mathlib.Omega.{arith}
use lib.ListN.{length, set}
use Rattle.page.specs.Page.{Bytes}
use Rattle.chip.specs.Chip.{power, blank_at, written}
use Rattle.chip.specs.Play.{Writable, Did}
use Rattle.chip.proofs.Power.{write_stayed, write_went}
use Rattle.chip.proofs.Plays.{did_none, did_meant, did_more}
use Rattle.record.specs.Record.{Rec, rec_of, anew}
use Rattle.record.proofs.Copy.{anew_length, anew_bytes, anew_says}
use Rattle.ring_log.specs.Ring.{chip_of}
use Rattle.ring_log.specs.Call.{Wrote, CutWrote}
use Rattle.ring_log.proofs.Bytes.{wrote_copy, cut_copy}
use Rattle.std.specs.Prelude.{Ok, Err}
use Rattle.chip.specs.Lent.{Writes}
use Rattle.chip.specs.declared.Halt.{Halt}
use Rattle.chip.specs.declared.Halt.TheVariants.{Dark, Dirty}
use Rattle.clean.specs.Steps.{Carries}

module _ (x k j : ℕ) (pg noise c : List ℕ) (f : ℕ) (ix : List ℕ) where
  -- the block has no such place
  pub carry_full : 15 ≤ k → Carries x k j pg noise c f ix c f ix (Err Dirty)
  carry_full l = record { did = did_more (omega arith) (omega arith) (did_none c f); right = λ b. absurd (omega arith) }

  -- its page is not blank
  carry_dirty : blank_at c (16 * x + k) ≡ false → Carries x k j pg noise c f ix c f ix (Err Dirty)
  carry_dirty d = record { did = did_more (omega arith) (omega arith) (did_none c f); right = λ b. ap not d }

  module _ (c' new : List ℕ) (f' : ℕ) (i : 256 * (16 * x + k) + 256 ≤ length c) (z : blank_at c (16 * x + k) ≡ true) (g : f' ≡ f - 1) (y : length pg ≡ 256) (s : Bytes pg)
      (u : new ≡ anew pg) (w : c' ≡ written (power f) noise (16 * x + k) new c) where
    -- the write is allowed
    fit : Writable (16 * x + k) (anew pg) c
    fit = record { inside = i; blank = z; size = anew_length pg y s; bytes = anew_bytes pg y s }

    did : Did 0 1 noise c f c' f'
    did = did_meant (16 * x + k) (anew pg) new c c' f f' fit u w g

    -- the copy says what the page says
    same : (r : Rec) → rec_of pg ≡ some r → rec_of (anew pg) ≡ some r
    same r says = anew_says pg y s ∙ says

    -- the power went
    carry_dark : f' ≡ 0 → Carries x k j pg noise c f ix c' f' ix (Err Dark)
    unfolding did did_meant
    carry_dark gone =
        record {
          did = did;
          right =
              record {
                out = gone;
                began = refl;
                wrote = λ r lit says.
                    subst (λ (d : List ℕ). CutWrote (16 * x + k) (some r) (chip_of c) (chip_of d)) (sym (write_went noise c c' f f' g (16 * x + k) (anew pg) new u w lit gone))
                    (cut_copy noise (16 * x + k) c (anew pg) r (same r says) fit);
              };
        }

    -- it stayed: the entry is that of the copy
    carry_on : k < 15 → 0 < f' → (ix' : List ℕ) → ix' ≡ set ix j (16 * x + k) → Carries x k j pg noise c f ix c' f' ix' (Ok (k + 1))
    unfolding did did_meant
    carry_on room on ix' put =
        record {
          did = did;
          right =
              record {
                lit = on;
                one_more = refl;
                room = room;
                entry = put;
                began = refl;
                wrote = λ r says.
                    subst (λ (d : List ℕ). Wrote (16 * x + k) (some r) (chip_of c) (chip_of d)) (sym (write_stayed noise c c' f f' g (16 * x + k) (anew pg) new u w on))
                    (wrote_copy noise (16 * x + k) c (anew pg) r (same r says) fit);
              };
        }

  -- by what the write answered
  module _ (c' new : List ℕ) (f' : ℕ) (i : 256 * (16 * x + k) + 256 ≤ length c) (y : length pg ≡ 256) (s : Bytes pg) (u : new ≡ anew pg) where
    pub carry_halted : (e : Halt) → Writes (16 * x + k) new noise c f c' f' (Err e) → Carries x k j pg noise c f ix c' f' ix (Err e)
    carry_halted Dark a = carry_dark c' new f' i a.says.0 a.says.2 y s u a.says.1 a.says.3
    carry_halted Dirty a =
        subst (λ (d : List ℕ). Carries x k j pg noise c f ix d f' ix (Err Dirty)) (sym a.says.1)
        (subst (λ (g : ℕ). Carries x k j pg noise c f ix c g ix (Err Dirty)) (sym a.says.2) (carry_dirty a.says.0))

    pub carry_written : Writes (16 * x + k) new noise c f c' f' (Ok tt) → k < 15 → (ix' : List ℕ) → ix' ≡ set ix j (16 * x + k) → Carries x k j pg noise c f ix c' f' ix' (Ok (k + 1))
    carry_written a room ix' put = carry_on c' new f' i a.says.0 a.says.2 y s u a.says.1 room a.says.3 ix' put
