-- Blocks are erased in turn, so no block was erased two times more often than another, but for the failures of the power; and there are few erases.
-- Assumes nothing.
use mathlib.Core.Path.{◌≡◌, refl, sym, ap, ◌∙◌, subst}
use mathlib.Core.Logic.{◌≢◌}
use mathlib.Core.List.{List, [], ◌∷◌}
use mathlib.Core.Bool.{Bool, true, false, cond}
use Prim.Native.Nat.{ℕ, zero, suc, ◌+◌, ◌-◌, ◌*◌, ◌%◌, ◌≤◌, ◌<◌}
use native.Mathlib.Nat.{mul-add-mod_self_left, mod-eq_of_lt}
use native.Mathlib.Decide.{dec_lt, ℕ_discrete}
use native.Mathlib.Omega.{arith}
use lib.Dec.{eqb, leb}
use borrow.Author.Tests.{eq-eqb, ne_eqb, le-leb, lt-leb}
use Rattle.ring_log.specs.Wear.{only}

-- ---- THE ERASES OF A HISTORY, newest first: an opening whose seal is there; an erase whose opening came to nothing, for a failure of the power; a failure
-- that cost no erase
pub data Event : Type 0 where
  opens : Event
  again : Event
  lost : Event

-- how many blocks were opened, and how often the power failed
abbrev pub openings : List Event → ℕ
openings [] = 0
openings (opens ∷ l) = suc (openings l)
openings (again ∷ l) = openings l
openings (lost ∷ l) = openings l

abbrev pub failures : List Event → ℕ
failures [] = 0
failures (opens ∷ l) = failures l
failures (again ∷ l) = suc (failures l)
failures (lost ∷ l) = suc (failures l)

-- what the opening after o others erases, weighted by the block: the first round erases nothing
unfoldable pub strike : ℕ → (ℕ → ℕ) → ℕ → ℕ
strike B q o = cond (leb B (o + 2)) (q ((o + 1) % B)) 0

-- the erases of all, weighted by the block
abbrev pub load : ℕ → (ℕ → ℕ) → List Event → ℕ
load B q [] = 0
load B q (opens ∷ l) = strike B q (openings l) + load B q l
load B q (again ∷ l) = strike B q (openings l) + load B q l
load B q (lost ∷ l) = load B q l

abbrev hit : ℕ → ℕ → ℕ → ℕ
hit B x o = strike B (only x) o

-- how often block x is erased by o openings and no failure
unfoldable pub turns : ℕ → ℕ → ℕ → ℕ
turns B x zero = 0
turns B x (suc o) = hit B x o + turns B x o

module _ (b : ℕ) where
  abbrev B : ℕ
  B = b + 2

  early : (o x : ℕ) → o < b → hit B x o ≡ 0
  unfolding strike
  early o x h = rw (lt-leb B (o + 2) (let z : o + 2 < B = omega arith in z))

  strikes : (o x : ℕ) → b ≤ o → (o + 1) % B ≡ x → hit B x o ≡ 1
  unfolding strike
  strikes o x h e = rw (le-leb B (o + 2) (let z : B ≤ o + 2 = omega arith in z), eq-eqb ((o + 1) % B) x e)

  misses : (o x : ℕ) → b ≤ o → (o + 1) % B ≢ x → hit B x o ≡ 0
  unfolding strike
  misses o x h e = rw (le-leb B (o + 2) (let z : B ≤ o + 2 = omega arith in z), ne_eqb ((o + 1) % B) x e)

  none_yet : (o x : ℕ) → o ≤ b → turns B x o ≡ 0
  unfolding turns
  none_yet zero x h = refl
  none_yet (suc o) x h = omega (arith, early o x (omega arith), none_yet o x (omega arith))

  -- after r = B q + t erases, the first t blocks of the order b + 1, 0, 1, .. were erased q + 1 times, and the others q times
  record Turn (r : ℕ) : Type 0 where
    q : ℕ
    t : ℕ
    split : r ≡ B * q + t
    less : t < B
    first : 0 < t → turns B (b + 1) (b + r) ≡ q + 1
    none : t ≡ 0 → turns B (b + 1) (b + r) ≡ q
    done : (x : ℕ) → x + 1 < t → turns B x (b + r) ≡ q + 1
    later : (x : ℕ) → t ≤ x + 1 → x + 1 < B → turns B x (b + r) ≡ q

  more : (r x : ℕ) → turns B x (b + suc r) ≡ hit B x (b + r) + turns B x (b + r)
  unfolding turns
  more r x = ap (turns B x) (let z : b + suc r ≡ suc (b + r) = omega arith in z)

  yes_more : (r x : ℕ) → (b + r + 1) % B ≡ x → turns B x (b + suc r) ≡ suc (turns B x (b + r))
  yes_more r x e = omega (arith, more r x, strikes (b + r) x (omega arith) e)

  no_more : (r x : ℕ) → (b + r + 1) % B ≢ x → turns B x (b + suc r) ≡ turns B x (b + r)
  no_more r x e = omega (arith, more r x, misses (b + r) x (omega arith) e)

  -- which block is next
  next_first : (r q : ℕ) → r ≡ B * q + 0 → (b + r + 1) % B ≡ b + 1
  next_first r q e =
      ap (λ (x : ℕ). x % B) (let z : b + r + 1 ≡ B * q + (b + 1) = omega arith in z)
      ∙ mul-add-mod_self_left B q (b + 1)
      ∙ mod-eq_of_lt (let z : b + 1 < B = omega arith in z)

  next_other : (r q t : ℕ) → r ≡ B * q + suc t → t < B → (b + r + 1) % B ≡ t
  next_other r q t e l =
      ap (λ (x : ℕ). x % B) (let z : b + r + 1 ≡ B * (q + 1) + t = omega arith in z)
      ∙ mul-add-mod_self_left B (q + 1) t
      ∙ mod-eq_of_lt l

  turn : (r : ℕ) → Turn r
  turn zero =
      record {
        q = 0;
        t = 0;
        split = omega arith;
        less = omega arith;
        first = λ h. absurd (omega arith);
        none = λ h. none_yet (b + 0) (b + 1) (omega arith);
        done = λ x h. absurd (omega arith);
        later = λ x h k. none_yet (b + 0) x (omega arith);
      }
  turn (suc r) = go (turn r)
    where
      go : Turn r → Turn (suc r)
      go w = cases w.t refl (dec_lt (suc w.t) B)
        where
          cases : (t : ℕ) → w.t ≡ t → Dec (suc w.t < B) → Turn (suc r)
          cases zero e d =
              let n : (b + r + 1) % B ≡ b + 1 = next_first r w.q (omega arith) in
              record {
                q = w.q;
                t = 1;
                split = omega arith;
                less = omega arith;
                first = λ h. omega (arith, yes_more r (b + 1) n, w.none e);
                none = λ h. absurd (omega arith);
                done = λ x h. absurd (omega arith);
                later = λ x h k. no_more r x (λ y. omega arith) ∙ w.later x (omega arith) k;
              }
          cases (suc t) e (yes d) =
              let n : (b + r + 1) % B ≡ t = next_other r w.q t (omega arith) (omega arith) in
              record {
                q = w.q;
                t = suc (suc t);
                split = omega arith;
                less = omega arith;
                first = λ h. no_more r (b + 1) (λ y. omega arith) ∙ w.first (omega arith);
                none = λ h. absurd (omega arith);
                done = λ x h. hitting n x h (ℕ_discrete x t);
                later = λ x h k. no_more r x (λ y. omega arith) ∙ w.later x (omega arith) k;
              }
            where
              hitting : (b + r + 1) % B ≡ t → (x : ℕ) → x + 1 < suc (suc t) → Dec (x ≡ t) → turns B x (b + suc r) ≡ w.q + 1
              hitting n x h (yes y) = omega (arith, yes_more r x (n ∙ sym y), w.later x (omega arith) (omega arith))
              hitting n x h (no y) = no_more r x (λ z. y (sym z ∙ n)) ∙ w.done x (omega arith)
          cases (suc t) e (no d) =
              let n : (b + r + 1) % B ≡ t = next_other r w.q t (omega arith) (omega (arith, w.less)) in
              record {
                q = w.q + 1;
                t = 0;
                split = omega (arith, w.less);
                less = omega arith;
                first = λ h. absurd (omega arith);
                none = λ h. no_more r (b + 1) (λ y. omega (arith, w.less)) ∙ w.first (omega arith);
                done = λ x h. absurd (omega arith);
                later = λ x h k. hitting n x k (ℕ_discrete x t);
              }
            where
              hitting : (b + r + 1) % B ≡ t → (x : ℕ) → x + 1 < B → Dec (x ≡ t) → turns B x (b + suc r) ≡ w.q + 1
              hitting n x h (yes y) = omega (arith, yes_more r x (n ∙ sym y), w.later x (omega arith) (omega arith))
              hitting n x h (no y) = no_more r x (λ z. y (sym z ∙ n)) ∙ w.done x (omega (arith, w.less))

  within : (r x : ℕ) → x < B → (w : Turn r) → (w.q ≤ turns B x (b + r)) × (turns B x (b + r) ≤ w.q + 1)
  within r x h w = go (ℕ_discrete x (b + 1)) (ℕ_discrete w.t 0) (dec_lt (x + 1) w.t)
    where
      go : Dec (x ≡ b + 1) → Dec (w.t ≡ 0) → Dec (x + 1 < w.t) → (w.q ≤ turns B x (b + r)) × (turns B x (b + r) ≤ w.q + 1)
      go (yes e) (yes z) d = (omega (arith, ap (λ (y : ℕ). turns B y (b + r)) e, w.none z), omega (arith, ap (λ (y : ℕ). turns B y (b + r)) e, w.none z))
      go (yes e) (no z) d =
          (omega (arith, ap (λ (y : ℕ). turns B y (b + r)) e, w.first (omega arith)), omega (arith, ap (λ (y : ℕ). turns B y (b + r)) e, w.first (omega arith)))
      go (no e) z (yes d) = (omega (arith, w.done x d), omega (arith, w.done x d))
      go (no e) z (no d) = (omega (arith, w.later x (omega arith) (omega arith)), omega (arith, w.later x (omega arith) (omega arith)))

  pub turns_even : (o x y : ℕ) → x < B → y < B → turns B x o ≤ turns B y o + 1
  turns_even o x y h k = go (dec_lt o b)
    where
      go : Dec (o < b) → turns B x o ≤ turns B y o + 1
      go (yes d) = omega (arith, none_yet o x (omega arith))
      go (no d) =
          let e : b + (o - b) ≡ o = omega arith in
          subst (λ (z : ℕ). turns B x z ≤ turns B y z + 1) e (omega (arith, within (o - b) x h (turn (o - b)), within (o - b) y k (turn (o - b))))

  -- ---- with failures

  hit_one : (x o : ℕ) → hit B x o ≤ 1
  unfolding strike
  hit_one x o = go (leb B (o + 2)) (eqb ((o + 1) % B) x)
    where
      go : (y z : Bool) → cond y (cond z 1 0) 0 ≤ 1
      go true true = omega arith
      go true false = omega arith
      go false z = omega arith

  worn_between : (x : ℕ) (l : List Event) → (turns B x (openings l) ≤ load B (only x) l) × (load B (only x) l ≤ turns B x (openings l) + failures l)
  unfolding turns
  worn_between x [] = (omega arith, omega arith)
  worn_between x (opens ∷ l) = (omega (arith, worn_between x l), omega (arith, worn_between x l))
  worn_between x (again ∷ l) = (omega (arith, worn_between x l), omega (arith, worn_between x l, hit_one x (openings l)))
  worn_between x (lost ∷ l) = (omega (arith, worn_between x l), omega (arith, worn_between x l))

  -- EVEN: differences are at most 1 + q
  pub even : (l : List Event) (x y : ℕ) → x < B → y < B → load B (only x) l ≤ load B (only y) l + (1 + failures l)
  even l x y h k = omega (arith, worn_between x l, worn_between y l, turns_even (openings l) x y h k)

  one : (o : ℕ) → strike B (λ b. 1) o ≤ 1
  unfolding strike
  one o = go (leb B (o + 2))
    where
      go : (z : Bool) → cond z 1 0 ≤ 1
      go true = omega arith
      go false = omega arith

  -- FEW: all erases are at most n / 6 + q, where 6 r ≤ n
  pub load_le : (l : List Event) → load B (λ b. 1) l ≤ openings l + failures l
  load_le [] = omega arith
  load_le (opens ∷ l) = omega (arith, load_le l, one (openings l))
  load_le (again ∷ l) = omega (arith, load_le l, one (openings l))
  load_le (lost ∷ l) = omega (arith, load_le l)

  pub few : (l : List Event) (n : ℕ) → 6 * openings l ≤ n → 6 * load B (λ b. 1) l ≤ n + 6 * failures l
  few l n h = omega (arith, load_le l)
