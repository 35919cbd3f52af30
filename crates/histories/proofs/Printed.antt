-- AFTER EVERY HISTORY THAT BEGAN WITH A BLANK CHIP EACH KEY CAN BE PRINTED (document 02, request 9): put takes no others, and nothing else makes a key.
-- Assumes nothing.
use mathlib.Core.Path.{◌≡◌, refl, sym, ◌∙◌, subst}
use mathlib.Core.Logic.{inl, inr}
use mathlib.Core.List.{List, [], ◌∷◌}
use mathlib.Core.Option.{Option, none, some}
use mathlib.Core.Bool.{true}
use Prim.Native.Nat.{ℕ, ◌≤◌}
use Rattle.chip.specs.Play.{Op}
use Rattle.ring_log.specs.Key.{Key, key≟}
use Rattle.ring_log.specs.Map.{Map, lookup, put, alter}
use Rattle.ring_log.specs.Answers.{Lent, printed, refused, done, put_answer, delete_answer}
use Rattle.ring_log.specs.Answers.{Answer as Says}
use Rattle.ring_log.proofs.MapLaws.{some≢none, lookup_there, alter_cases}
use Rattle.ring_log.proofs.AnswerLaws.{put_done, delete_done}
use Rattle.lent.specs.Area.{map_in}
use Rattle.lent.specs.Ended.{Answer}
use Rattle.keys.specs.Walk.{Has}
use Rattle.histories.specs.History as history
use Rattle.histories.specs.History.{Phase, History, Fresh, begin, found, dark, lend, start, delete, get, count, next, lent_on, ToldBy, Tells}
use Rattle.histories.proofs.Histories.{right}

-- each key of the map can be printed
abbrev Printed : Map (List ℕ) → Type 0
Printed [] = Unit {0}
Printed (p ∷ m) = (printed p.0 ≡ true) × Printed m

-- and so each that has a value
printed_has : (m : Map (List ℕ)) → Printed m → (k : Key) → Has k m → printed k ≡ true
unfolding lookup
printed_has [] h k v = absurd (some≢none (sym v.1))
printed_has (p ∷ m) h k v = go (key≟ k p.0) (printed_has m h.1 k)
  where
    go : Dec (k ≡ p.0) → (Has k m → printed k ≡ true) → printed k ≡ true
    go (yes e) f = subst (λ (j : Key). printed j ≡ true) (sym e) h.0
    go (no e) f = f (v.0, sym (lookup_there k p m e) ∙ v.1)

-- ---- A KEY IS GIVEN A VALUE, OR LOSES IT
module _ (k : Key) (o : Option (List ℕ)) (good : (v : List ℕ) → o ≡ some v → printed k ≡ true) where
  printed_put : (m : Map (List ℕ)) → Printed m → Printed (put k o m)
  printed_put m h = go o refl
    where
      go : (x : Option (List ℕ)) → o ≡ x → Printed (put k x m)
      go none e = h
      go (some v) e = (good v e, h)

  printed_alter : (m : Map (List ℕ)) → Printed m → Printed (alter k o m)
  unfolding alter
  printed_alter [] h = printed_put [] tt
  printed_alter (p ∷ m) h =
      alter_cases Printed k o p m (λ _. printed_put (p ∷ m) h) (λ _. printed_put m h.1) (λ _. (h.0, printed_alter m h.1))

-- ---- THE ANSWERS
module _ (l : Lent) (k : Key) (m n : Map (List ℕ)) (h : Printed m) where
  put_printed : (v : List ℕ) → put_answer l k v m ≡ done n → Printed n
  put_printed v e = let d = put_done l k v m n e in subst Printed d.2 (printed_alter k (some v) (λ _ _. d.0) m h)

  delete_printed : delete_answer l k m ≡ done n → Printed n
  delete_printed e = subst Printed (delete_done l k m n e) (printed_alter k none (λ v z. absurd (some≢none (sym z))) m h)

told_printed : (s : Says (Map (List ℕ))) (f' : ℕ) (r : Answer) (m m' : Map (List ℕ)) → Printed m → ((n : Map (List ℕ)) → s ≡ done n → Printed n) → ToldBy s f' r m m' → Printed m'
told_printed (refused k) f' r m m' h g (er, em) = subst Printed (sym em) h
told_printed (done n) f' r m m' h g (inl (er, em)) = subst Printed (sym em) (g n refl)
told_printed (done n) f' r m m' h g (inr (er, gone, inl em)) = subst Printed (sym em) h
told_printed (done n) f' r m m' h g (inr (er, gone, inr em)) = subst Printed (sym em) (g n refl)

-- ---- EVERY HISTORY
tells_printed : {B : ℕ} {s : Phase} {c : List ℕ} {n q : ℕ} {ops : List Op} (h : History B s c n q ops) → Fresh h → (m : Map (List ℕ)) → Tells h m → Printed m
tells_printed (begin c z f) y m e = subst Printed (sym e) tt
tells_printed (found c z s) y m e = absurd y
tells_printed (dark h) y m t = tells_printed h y m t
tells_printed (lend noise' f' z h) y m t = tells_printed h y m t
tells_printed (start noise f w w' r e h) y m (t, d) = tells_printed h y m t
tells_printed (history.put {noise} {f} {w} {c} key value c' f' w' r e h) y m (k, t, d) =
    let p : Printed k = tells_printed h y k t in
    told_printed (put_answer (lent_on c f w) key value k) f' r k m p (λ n z. put_printed (lent_on c f w) key k n p value z) d
tells_printed (delete {noise} {f} {w} {c} key c' f' w' r e h) y m (k, t, d) =
    let p : Printed k = tells_printed h y k t in
    told_printed (delete_answer (lent_on c f w) key k) f' r k m p (λ n z. delete_printed (lent_on c f w) key k n p z) d
tells_printed (get key b b' r e h) y m (t, d) = tells_printed h y m t
tells_printed (count r e h) y m (t, d) = tells_printed h y m t
tells_printed (next key b b' r e h) y m (t, d) = tells_printed h y m t

-- THEOREM: EACH KEY THAT HAS A VALUE CAN BE PRINTED
pub keys_printed : (B : ℕ) → 4 ≤ B → {s : Phase} {c : List ℕ} {n q : ℕ} {ops : List Op} (h : History B s c n q ops) → Fresh h → (k : Key) → Has k (map_in c) → printed k ≡ true
keys_printed B big {s} {c} h y k v = printed_has (map_in c) (tells_printed h y (map_in c) (right B big h)) k v
