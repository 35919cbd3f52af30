-- The refusals that need no search, as numbers: what the code tests, and what the answers of document 01 say. Assumes nothing.
use mathlib.Core.Path.{◌≡◌, refl, sym, subst}
use mathlib.Core.List.{List}
use mathlib.Core.Bool.{Bool, true, false, not, ◌&&◌, ◌||◌}
use Prim.Native.Nat.{ℕ, zero, suc, ◌+◌, ◌*◌, ◌/◌, ◌%◌, ◌≤◌, ◌<◌}
use native.Mathlib.Omega.{arith}
use lib.Dec.{eqb, leb}
use lib.ListN.{length}
use borrow.Author.Tests.{eq-eqb, ne_eqb, le-leb, leb-true, eqb-true}
use Rattle.page.proofs.All.{and_left, and_right}
use Rattle.ring_log.specs.Ring.{most_blocks}
use Rattle.ring_log.specs.Answers.{Lent, sizes_test, refused, refuse, lent, keyed}
use Rattle.ring_log.specs.Answers.{Answer as Says}
use Rattle.lent.specs.Area.{blocks_of, Sized, mark, lent_of}
use Rattle.lent.specs.Tested.{number, lent_number, key_number, due, Tested}
use Rattle.lent.specs.Ended.{Done, Refused, refusal_number}
use Rattle.lent.specs.declared.Refusal.{Refusal}
use Rattle.lent.specs.declared.Refusal.TheVariants.{BadKey, LongValue, NoRoom, NoValue, BadSize, ShortBuffer, PowerGone, NotStarted}

-- ---- each refusal has a number above 0
pub refusal_some : (r : Refusal) → 0 < refusal_number r
refusal_some BadKey = omega arith
refusal_some LongValue = omega arith
refusal_some NoRoom = omega arith
refusal_some NoValue = omega arith
refusal_some BadSize = omega arith
refusal_some ShortBuffer = omega arith
refusal_some PowerGone = omega arith
refusal_some NotStarted = omega arith

-- ---- the lengths

-- the four tests hold where the test does
sizes_all : (c w : ℕ) → sizes_test c w ≡ true → (c % 4096 ≡ 0) × (4 ≤ c / 4096) × (c / 4096 ≤ most_blocks) × (16 * (c / 4096) + 16 ≤ w)
sizes_all c w e =
    let abc = and_left (eqb (c % 4096) 0 && leb 4 (c / 4096) && leb (c / 4096) most_blocks) _ e in
    let ab = and_left (eqb (c % 4096) 0 && leb 4 (c / 4096)) _ abc in (
      eqb-true _ _ (and_left (eqb (c % 4096) 0) _ ab),
      leb-true _ _ (and_right (eqb (c % 4096) 0) _ ab),
      leb-true _ _ (and_right (eqb (c % 4096) 0 && leb 4 (c / 4096)) _ abc),
      leb-true _ _ (and_right (eqb (c % 4096) 0 && leb 4 (c / 4096) && leb (c / 4096) most_blocks) _ e),
    )

-- all hold
pub sizes_hold : (c w : List ℕ) → Sized c w → sizes_test (length c) (length w) ≡ true
sizes_hold c w s =
    let z : length c % 4096 ≡ 0 = omega (arith, s.whole) in
    rw (eq-eqb (length c % 4096) 0 z, le-leb 4 (blocks_of c) s.some_blocks, le-leb (blocks_of c) most_blocks s.few_blocks, le-leb (16 * blocks_of c + 16) (length w) s.long)

-- and where the test holds they do
pub sizes_sized : (c w : List ℕ) → sizes_test (length c) (length w) ≡ true → Sized c w
sizes_sized c w e =
    let s = sizes_all (length c) (length w) e in
    record { whole = omega (arith, s.0); some_blocks = s.1; few_blocks = s.2; long = s.3 }

-- ---- WHAT IS LENT
module _ (c : List ℕ) (f : ℕ) (w : List ℕ) (n : ℕ) where
  -- the number by the tests
  by_tests : (t d r : Bool) → sizes_test (length c) (length w) ≡ t → (eqb f 0 || eqb (mark w) 2) ≡ d → eqb (mark w) 1 ≡ r
      → lent_number (lent_of c f w) n ≡ number 5 (not t) (number 7 d (number 8 (not r) n))
  by_tests t d r p q v = rw (p, q, v)

  -- with power, and a mark of 1, 7 is not due
  not_dark : 0 < f → mark w ≡ 1 → (eqb f 0 || eqb (mark w) 2) ≡ false
  not_dark p q = rw (ne_eqb f 0 (λ e. omega arith), ne_eqb (mark w) 2 (λ e. omega arith))

  due_none : Sized c w → 0 < f → mark w ≡ 1 → n ≡ lent_number (lent_of c f w) n
  due_none s p q = sym (by_tests true false true (sizes_hold c w s) (not_dark p q) (eq-eqb (mark w) 1 q))

  -- none is due, and the number after it is answered
  pub tested_next : Tested c f w 0 0 → Tested c f w n n
  tested_next t =
      record {
        lit = λ _. t.lit refl;
        marked = λ _. t.marked refl;
        checked = λ _. t.checked refl;
        due = λ _. due_none (t.checked refl).sized (t.lit refl) (t.marked refl);
      }

  -- a refusal of what is lent is due whatever would come after it
  pub tested_first : (r : Refusal) → Tested c f w 0 (refusal_number r) → Tested c f w n (refusal_number r)
  tested_first r t =
      record {
        lit = λ z. absurd (omega (arith, refusal_some r));
        marked = λ z. absurd (omega (arith, refusal_some r));
        checked = λ z. absurd (omega (arith, refusal_some r));
        due = λ h. go (sizes_test (length c) (length w)) (eqb f 0 || eqb (mark w) 2) (eqb (mark w) 1) (refusal_number r) (refusal_some r) (t.due h);
      }
    where
      go : (x y z : Bool) (k : ℕ) → 0 < k → k ≡ number 5 (not x) (number 7 y (number 8 (not z) 0)) → k ≡ number 5 (not x) (number 7 y (number 8 (not z) n))
      go false y z k l e = e
      go true true z k l e = e
      go true false false k l e = e
      go true false true k l e = absurd (omega arith)

-- the same by another name of the number
pub tested_of : (c : List ℕ) (f : ℕ) (w : List ℕ) (i j r : ℕ) → i ≡ j → Tested c f w i r → Tested c f w j r
tested_of c f w i j r e t = subst (λ (n : ℕ). Tested c f w n r) e t

-- ---- THE ANSWERS OF DOCUMENT 01, by the number that is due
module _ {A : Type 0} where
  pub lent_due : (l : Lent) (n : ℕ) (a : Says A) → lent l (due n a) ≡ due (lent_number l n) a
  unfolding refuse
  lent_due l n a = go (sizes_test l.chip l.work) l.dark l.ready
    where
      go : (x y z : Bool) → refuse 5 (not x) (refuse 7 y (refuse 8 (not z) (due n a))) ≡ due (number 5 (not x) (number 7 y (number 8 (not z) n))) a
      go false y z = refl
      go true true z = refl
      go true false false = refl
      go true false true = refl

  -- one test, and one of the key alone
  pub refuse_due : (n : ℕ) (t : Bool) (a : Says A) → refuse (suc n) t a ≡ due (number (suc n) t 0) a
  unfolding refuse
  refuse_due n true a = refl
  refuse_due n false a = refl

  pub keyed_only : (k : List ℕ) (a : Says A) → keyed k a ≡ due (key_number k 0) a
  keyed_only k a = refuse_due 0 (eqb (length k) 0 || leb 17 (length k)) a

-- a number above 0 is answered as a refusal
pub due_refused : {A : Type 0} (k : ℕ) (a : Says A) → 0 < k → due k a ≡ refused k
due_refused zero a l = absurd (omega arith)
due_refused (suc k) a l = refl

-- ---- the answers of the code are told apart
pub done_inj : (a b : ℕ) → Done a ≡ Done b → a ≡ b
done_inj a b e = cc

pub refused_inj : (a b : ℕ) → Refused a ≡ Refused b → a ≡ b
refused_inj a b e = cc

pub done≢refused : (a b : ℕ) → Done a ≡ Refused b → ⊥
done≢refused a b e = let z : ◌≡◌ {A = ℕ} 0 1 = cc in omega arith
