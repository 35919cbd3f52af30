-- Format: block after block is blank, and the answer of document 01. Assumes nothing.
use mathlib.Core.Path.{◌≡◌, refl, sym, ap, ◌∙◌, subst}
use mathlib.Core.Logic.{inl, inr}
use mathlib.Core.List.{List, []}
use mathlib.Core.Bool.{Bool, true, false, not, ◌||◌}
use Prim.Native.Nat.{ℕ, zero, suc, ◌+◌, ◌-◌, ◌*◌, ◌≤◌, ◌<◌}
use native.Mathlib.Decide.{dec_lt}
use native.Mathlib.Omega.{arith}
use lib.Dec.{eqb}
use lib.ListN.{length, set, length-set}
use borrow.Author.Tests.{eq-eqb, ne_eqb}
use Rattle.std.specs.Prelude.{Result, Err}
use Rattle.chip.specs.Chip.{Power, stays, power, erased}
use Rattle.chip.specs.Lent.{Same, Erases}
use Rattle.chip.specs.Play.{Did}
use Rattle.chip.specs.declared.Chip.{Chip}
use Rattle.chip.specs.declared.Halt.{Halt}
use Rattle.chip.proofs.Plays.{did_none, did_erase, did_more, did_then}
use Rattle.ring_log.specs.Map.{Map}
use Rattle.ring_log.specs.Ring.{chip_of}
use Rattle.ring_log.specs.Answers.{refuse, done, format_answer, sizes_test}
use Rattle.ring_log.specs.Answers.{Answer as Says}
use Rattle.ring_log.proofs.Bytes.{whole_erased}
use Rattle.ring_log.proofs.Start.{blank_map}
use Rattle.lent.specs.Area.{blocks_of, Sized, mark, lent_of}
use Rattle.format.specs.Formatted.{Formats, ClearsAll, FormatEnds}
use Rattle.lent.proofs.Area.{marked}
use Rattle.lent.proofs.Numbers.{sizes_hold}
use Rattle.lent.specs.Ended.{Done, Refused, answer_of, refusal_number}
use Rattle.lent.specs.declared.Refusal.{Refusal}
use Rattle.lent.specs.declared.Refusal.TheVariants.{BadSize}

-- ---- the loop

-- every page below p is blank
abbrev pub Blank : ℕ → List ℕ → Type 0
Blank n c = (p : ℕ) → p < n → (chip_of c).full p ≡ false

-- two operations are left: the power stays
power_stays : (f : ℕ) → 2 ≤ f → power f ≡ stays
unfolding power
power_stays zero l = absurd (omega arith)
power_stays (suc zero) l = absurd (omega arith)
power_stays (suc (suc f)) l = refl

-- block x is erased, and the power is still on
pub blank_more : (noise c c' : List ℕ) (x f f' : ℕ) → 4096 * x + 4096 ≤ length c → c' ≡ erased (power f) noise x c → f' ≡ f - 1 → 0 < f' → Blank (16 * x) c → Blank (16 * (x + 1)) c'
blank_more noise c c' x f f' h e g l b p m = subst (λ (d : List ℕ). (chip_of d).full p ≡ false) (sym whole) (go (dec_lt p (16 * x)))
  where
    whole : c' ≡ erased stays noise x c
    whole = e ∙ ap (λ (t : Power). erased t noise x c) (power_stays f (omega arith))

    go : Dec (p < 16 * x) → (chip_of (erased stays noise x c)).full p ≡ false
    go (yes k) = (whole_erased noise x c h).block.full p (λ q. omega arith) ∙ b p k
    go (no k) = (whole_erased noise x c h).blank p (omega arith)

-- what is lent is still the same, d, after x erases; d' after one more, which says r
module _ (a d d' : Chip) (x : ℕ) (s : Same a d) (r : Result (Unit {0}) Halt) (h : 4096 * x + 4096 ≤ length d.bytes.now) (t : Same d d')
    (e : Erases x d.noise.now d.bytes.now d.fuse.now d'.bytes.now d'.fuse.now r) where
  pub same_next : Same a d'
  same_next = record { bytes = t.bytes ∙ s.bytes; size = t.size ∙ s.size; fuse = t.fuse ∙ s.fuse; noise = t.noise ∙ s.noise }

  same_noise : d.noise.now ≡ a.noise.now
  same_noise = rw s.noise refl

  pub did_next : Did x 0 a.noise.now a.bytes.now a.fuse.now d.bytes.now d.fuse.now → Did (x + 1) 0 a.noise.now a.bytes.now a.fuse.now d'.bytes.now d'.fuse.now
  did_next p =
      did_more (omega arith) (omega arith)
      (did_then p (did_erase x _ _ _ _ h (e.chip ∙ ap (λ (n : List ℕ). erased (power d.fuse.now) n x d.bytes.now) same_noise) e.fuse))

  pub blank_next : 0 < d'.fuse.now → Blank (16 * x) d.bytes.now → Blank (16 * (x + 1)) d'.bytes.now
  blank_next = blank_more d.noise.now d.bytes.now d'.bytes.now x d.fuse.now d'.fuse.now h e.chip e.fuse

-- ---- FORMAT

-- refused, it did nothing
pub did_still : (n : ℕ) (noise c : List ℕ) (f : ℕ) → Did n 0 noise c f c f
did_still n noise c f = did_more (omega arith) (omega arith) (did_none c f)

module _ (c : List ℕ) (f : ℕ) (w : List ℕ) where
  -- the answer by the tests
  format_by : (t a b : Bool) → sizes_test (length c) (length w) ≡ t → eqb f 0 ≡ a → eqb (mark w) 2 ≡ b
      → ◌≡◌ {A = Says (Map (List ℕ))} (refuse 5 (not t) (refuse 7 (a || b) (done []))) (format_answer (lent_of c f w))
  format_by t a b p q u = rw (← p, ← q, ← u)

  pub format_5 : (e : Refusal) → ◌≡◌ {A = Result ℕ Refusal} (Err e) (Err BadSize) → sizes_test (length c) (length w) ≡ false → FormatEnds c f w c f w (Refused (refusal_number e))
  unfolding refuse
  format_5 e q p =
      subst (λ (s : Says (Map (List ℕ))). Formats c f w c f w s (Refused (refusal_number e))) (format_by false _ _ p refl refl)
      (record { size = refl; ends = (ap (λ (r : Result ℕ Refusal). answer_of r) q, refl, refl, refl) })

  module _ (s : Sized c w) where
    refused_7 : (a b : Bool) → (a || b) ≡ true → eqb f 0 ≡ a → eqb (mark w) 2 ≡ b → FormatEnds c f w c f w (Refused 7)
    unfolding refuse
    refused_7 a b t p q =
        subst (λ (x : Says (Map (List ℕ))). Formats c f w c f w x (Refused 7)) (ap (λ (y : Bool). refuse 7 y (done [])) (sym t) ∙ format_by true a b (sizes_hold c w s) p q)
        (record { size = refl; ends = (refl, refl, refl, refl) })

    pub format_off : f ≡ 0 → FormatEnds c f w c f w (Refused 7)
    format_off z = refused_7 true _ refl (eq-eqb f 0 z) refl

    pub format_gone : 0 < f → mark w ≡ 2 → FormatEnds c f w c f w (Refused 7)
    format_gone l z = refused_7 false true refl (ne_eqb f 0 (λ e. omega arith)) (eq-eqb (mark w) 2 z)

    -- what is lent of the chip comes back as it was at the end
    module _ (lit : 0 < f) (on : mark w ≡ 2 → ⊥) (b : ℕ) (e : b ≡ blocks_of c) (c' d : List ℕ) (f' g : ℕ) (chip : c' ≡ d) (fuse : f' ≡ g) where
      long : 16 ≤ length w
      long = omega (arith, s.long)

      -- every block was erased
      pub format_done : length d ≡ length c → ClearsAll b d g true → FormatEnds c f w c' f' (set w 0 0) (Done 0)
      unfolding refuse
      format_done k q =
          let h : ClearsAll b c' f' true = rw (chip, fuse) q in
          let size : length c' ≡ length c = ap length chip ∙ k in
          let blank : Blank (16 * blocks_of c') c' = λ p m. h.blank refl p (omega arith) in
          let big : 4 ≤ blocks_of c' = omega (arith, s.some_blocks) in
          subst (λ (x : Says (Map (List ℕ))). Formats c f w c' f' (set w 0 0) x (Done 0))
          (format_by true false false (sizes_hold c w s) (ne_eqb f 0 (λ e. omega arith)) (ne_eqb (mark w) 2 on))
          (record { size = simp length-set refl; ends = inl (refl, h.lit refl, marked w 0 long, blank, blank_map (blocks_of c') big (chip_of c') blank) })

      -- the power went
      pub format_lost : ClearsAll b d g false → FormatEnds c f w c' f' (set (set w 0 0) 0 2) (Refused 7)
      unfolding refuse
      format_lost q =
          let h : ClearsAll b c' f' false = rw (chip, fuse) q in
          subst (λ (x : Says (Map (List ℕ))). Formats c f w c' f' (set (set w 0 0) 0 2) x (Refused 7))
          (format_by true false false (sizes_hold c w s) (ne_eqb f 0 (λ e. omega arith)) (ne_eqb (mark w) 2 on))
          (record { size = simp length-set refl; ends = inr (refl, h.lost refl, marked (set w 0 0) 2 (simp length-set long)) })
