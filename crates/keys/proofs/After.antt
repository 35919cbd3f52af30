-- What a search in the index says of the next key, and how it is handed out. Assumes nothing.
use mathlib.Core.Path.{◌≡◌, refl, sym, ap, ◌∙◌, subst}
use mathlib.Core.Logic.{◌⊎◌, inl, inr}
use mathlib.Core.List.{List, [], ◌∷◌}
use mathlib.Core.Option.{Option, none, some}
use mathlib.Core.Bool.{Bool}
use Prim.Native.Nat.{ℕ, zero, suc, ◌+◌, ◌/◌, ◌≤◌, ◌<◌, zero-le, suc-le-suc}
use native.Mathlib.Nat.{eq-or-lt_of_le}
use native.Mathlib.Omega.{arith}
use lib.Dec.{leb}
use lib.ListN.{length, take, drop, get_or, drop_of_length-le}
use lib.Seq.{drop-cons}
use borrow.Author.Tests.{le-leb, lt-leb}
use Rattle.record.specs.Record.{key_at}
use Rattle.ring_log.specs.Key.{Key, ◌≺◌, tri<, tri≡, tri>, tri}
use Rattle.ring_log.specs.Map.{Map, keys}
use Rattle.ring_log.specs.Answers.{lent, gotten}
use Rattle.ring_log.proofs.KeyLaws.{≺_irrefl, ≺_asym, by_tri-<, by_tri-≡, by_tri->}
use Rattle.index.specs.Index.{keys_of, Ordered}
use Rattle.index.specs.Answers.{FindsBy, Finds}
use Rattle.std.specs.Prelude.{Ok, Err}
use Rattle.index.proofs.Search.{nth_key, length_keys}
use Rattle.index.proofs.Rows.{table_keys}
use Rattle.lent.specs.Area.{blocks_of, map_in, lent_of}
use Rattle.lent.specs.Tested.{number, lent_number, due, Tested}
use Rattle.fetch.specs.Fetched.{Gets, Fetches}
use Rattle.lent.specs.Ended.{Answer, Refused, refusal_number}
use Rattle.lent.specs.declared.Refusal.{Refusal}
use Rattle.fetch.proofs.Rows.{index_ordered}
use Rattle.lent.proofs.Numbers.{refusal_some, lent_due, refuse_due, tested_first, tested_next, tested_of}
use Rattle.fetch.proofs.Gets.{got_refused, got_fetched}
use Rattle.keys.specs.Next.{next_key, next_answer, first, HandsFrom, NextEnds}

-- ---- THE NEXT KEY, one pair at a time
module _ {A : Type 0} (k : Key) (p : Key × A) (m : Map A) where
  -- the first key comes after k
  pub next_here : k ≺ p.0 → next_key k (p ∷ m) ≡ some p.0
  unfolding next_key
  next_here h = by_tri-< k p.0 (tri k p.0) _ _ _ h

  -- it doesn't
  pub next_there : (k ≺ p.0 → ⊥) → next_key k (p ∷ m) ≡ next_key k m
  unfolding next_key
  next_there h = elim (tri k p.0) [ tri< e ↦ absurd (h e) | tri≡ e ↦ by_tri-≡ k p.0 (tri k p.0) _ _ _ e | tri> e ↦ by_tri-> k p.0 (tri k p.0) _ _ _ e ]

-- of the keys by their places: none of those before i comes after k, and all from i on do
pub next_at : {A : Type 0} (k : Key) (m : Map A) (i : ℕ) → ((j : ℕ) → j < i → j < length (keys m) → k ≺ get_or (keys m) j [] → ⊥) → ((j : ℕ) → i ≤ j → j < length (keys m) → k ≺ get_or (keys m) j [])
    → next_key k m ≡ first (drop i (keys m))
unfolding next_key keys
next_at k [] zero f g = refl
next_at k [] (suc i) f g = refl
next_at k (p ∷ m) zero f g = next_here k p m (g zero zero-le (suc-le-suc zero-le))
next_at k (p ∷ m) (suc i) f g =
    next_there k p m (f zero (suc-le-suc zero-le) (suc-le-suc zero-le))
    ∙ next_at k m i (λ j l h. f (suc j) (suc-le-suc l) (suc-le-suc h)) (λ j l h. g (suc j) (suc-le-suc l) (suc-le-suc h))

-- ---- THE ENTRIES OF AN INDEX
module _ (c ps : List ℕ) (o : Ordered c ps) where
  -- their keys rise
  rising : (i j : ℕ) → i < j → j < length (keys_of c ps) → get_or (keys_of c ps) i [] ≺ get_or (keys_of c ps) j []
  rising i j l h =
      let a : j < length ps = omega (arith, length_keys c ps) in
      let b : i < length ps = omega arith in
      subst (λ (x : Key). x ≺ get_or (keys_of c ps) j []) (sym (nth_key c ps i b)) (subst (λ (x : Key). key_at c (get_or ps i 0) ≺ x) (sym (nth_key c ps j a)) (o.rising i j l a))

  -- from the first that is there: its key
  first_there : (i : ℕ) → i < length ps → first (drop i (keys_of c ps)) ≡ some (key_at c (get_or ps i 0))
  first_there i h = ap first (drop-cons (keys_of c ps) i [] (omega (arith, length_keys c ps))) ∙ ap (λ (k : Key). some k) (nth_key c ps i h)

  -- past the last there is none
  first_past : (i : ℕ) → length ps ≤ i → first (drop i (keys_of c ps)) ≡ none
  first_past i h = ap first (drop_of_length-le (keys_of c ps) {i = i} (omega (arith, length_keys c ps)))

  -- k was found at i: those up to i don't come after it, and the others do
  found_none : (k : Key) (i : ℕ) → FindsBy (keys_of c ps) k (Ok i) → (j : ℕ) → j < i + 1 → k ≺ get_or (keys_of c ps) j [] → ⊥
  found_none k i x j l h = go (eq-or-lt_of_le (omega arith))
    where
      go : (j ≡ i) ⊎ (j < i) → ⊥
      go (inl e) = ≺_irrefl k (subst (λ (y : Key). k ≺ y) (ap (λ (n : ℕ). get_or (keys_of c ps) n []) e ∙ sym x.1) h)
      go (inr e) = ≺_asym k (get_or (keys_of c ps) j []) h (subst (λ (y : Key). get_or (keys_of c ps) j [] ≺ y) (sym x.1) (rising j i e x.0))

  found_all : (k : Key) (i : ℕ) → FindsBy (keys_of c ps) k (Ok i) → (j : ℕ) → i + 1 ≤ j → j < length (keys_of c ps) → k ≺ get_or (keys_of c ps) j []
  found_all k i x j l h = subst (λ (y : Key). y ≺ get_or (keys_of c ps) j []) (sym x.1) (rising i j (omega arith) h)

-- ---- A KEY IS HANDED OUT, from entry i on
module _ (c ps : List ℕ) (i : ℕ) where
  pub hands_none : (b : List ℕ) → length ps ≤ i → HandsFrom c ps i b b (Refused 4)
  hands_none b l = record { right = λ o. subst (λ (k : Option Key). Gets b b (gotten b k) (Refused 4)) (sym (first_past c ps o i l)) (record { ends = (refl, refl) }) }

  module _ (l : i < length ps) (b b' : List ℕ) (r : Answer) where
    -- entries in order are pages of the chip
    pub hands_never : length c / 256 ≤ get_or ps i 0 → HandsFrom c ps i b b' r
    hands_never h = record { right = λ o. absurd (omega (arith, o.inside i l)) }

    pub hands_key : (k : Key) → k ≡ key_at c (get_or ps i 0) → Gets b b' (gotten b (some k)) r → HandsFrom c ps i b b' r
    hands_key k e g = record { right = λ o. subst (λ (x : Option Key). Gets b b' (gotten b x) r) (ap (λ (x : Key). some x) e ∙ sym (first_there c ps o i l)) g }

-- ---- THE NEXT KEY IS HANDED OUT, by what the search found
module _ (c ps : List ℕ) (k : Key) (i : ℕ) (b b' : List ℕ) (r : Answer) where
  -- from the first entry whose key comes after k
  hands_by : (x : ℕ) → ((o : Ordered c ps) (j : ℕ) → j < x → k ≺ get_or (keys_of c ps) j [] → ⊥) → ((o : Ordered c ps) (j : ℕ) → x ≤ j → j < length (keys_of c ps) → k ≺ get_or (keys_of c ps) j [])
      → HandsFrom c ps x b b' r → Fetches c ps (next_key k (map_in c)) b b' r
  hands_by x before behind h =
      record {
        right = λ big size same.
            let o : Ordered c ps = index_ordered c ps big size same in
            let e : keys_of c ps ≡ keys (map_in c) = ap (keys_of c) same ∙ table_keys (blocks_of c) big c size in
            subst (λ (y : Option Key). Gets b b' (gotten b y) r)
            (ap (λ (ks : List Key). first (drop x ks)) e
            ∙ sym (next_at k (map_in c) x
            (λ j l y z. before o j l (subst (λ (ks : List Key). k ≺ get_or ks j []) (sym e) z))
            (λ j l y. subst (λ (ks : List Key). k ≺ get_or ks j []) e (behind o j l (subst (λ (ks : List Key). j < length ks) (sym e) y)))))
            (h.right o);
      }

  pub hands_after : (Ordered c ps → Finds (keys_of c ps) k (Ok i)) → HandsFrom c ps (i + 1) b b' r → Fetches c ps (next_key k (map_in c)) b b' r
  hands_after finds = hands_by (i + 1) (λ o j l. found_none c ps o k i (finds o).says j l) (λ o j l. found_all c ps o k i (finds o).says j l)

  pub hands_missed : (Ordered c ps → Finds (keys_of c ps) k (Err i)) → HandsFrom c ps i b b' r → Fetches c ps (next_key k (map_in c)) b b' r
  hands_missed finds = hands_by i (λ o j l y. ≺_asym k (get_or (keys_of c ps) j []) y ((finds o).says.1 j l)) (λ o j l. (finds o).says.2 j l)

-- ---- THE CALL

-- the number that is due of the key
abbrev next_number : Key → ℕ
next_number k = number 1 (leb 17 (length k)) 0

module _ (c : List ℕ) (f : ℕ) (w key b b' : List ℕ) where
  next_due : next_answer (lent_of c f w) key b (map_in c) ≡ due (lent_number (lent_of c f w) (next_number key)) (gotten b (next_key key (map_in c)))
  next_due =
      ap (lent (lent_of c f w)) (refuse_due 0 (leb 17 (length key)) (gotten b (next_key key (map_in c)))) ∙ lent_due (lent_of c f w) (next_number key) (gotten b (next_key key (map_in c)))

  refused_by : (k : ℕ) → 0 < k → Tested c f w (next_number key) k → NextEnds c f w key b b (Refused k)
  refused_by k l t h = got_refused c f w b b (next_number key) (next_key key (map_in c)) _ next_due k t h l

  -- refused: of what is lent
  pub next_refused : (e : Refusal) → Tested c f w 0 (refusal_number e) → NextEnds c f w key b b (Refused (refusal_number e))
  next_refused e t = refused_by (refusal_number e) (refusal_some e) (tested_first c f w (next_number key) e t)

  module _ (t : Tested c f w 0 0) where
    -- of the key
    pub next_long : 16 < length key → NextEnds c f w key b b (Refused 1)
    next_long l = refused_by 1 (omega arith) (tested_of c f w _ _ 1 (ap (λ (x : Bool). number 1 x 0) (sym (le-leb 17 (length key) l))) (tested_next c f w 1 t))

    -- none is due
    pub next_handed : (r : Answer) → length key ≤ 16 → Fetches c (take (get_or w 3 0) (drop 16 w)) (next_key key (map_in c)) b b' r → NextEnds c f w key b b' r
    next_handed r l g h =
        got_fetched c f w b b' (next_number key) (next_key key (map_in c)) _ next_due 0
        (tested_of c f w _ _ 0 (ap (λ (x : Bool). number 1 x 0) (sym (lt-leb 17 (length key) (omega arith)))) (tested_next c f w 0 t)) h r refl g
