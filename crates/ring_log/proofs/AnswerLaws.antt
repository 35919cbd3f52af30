-- What document 01 says of the answers: a key that has a value is never refused for room; the map never has more than 8 (B - 2) keys; 9 is never answered. Assumes nothing.
use mathlib.Core.Path.{◌≡◌, refl, sym, ap, ◌∙◌}
use mathlib.Core.Logic.{◌≢◌}
use mathlib.Core.List.{List}
use mathlib.Core.Option.{Option, none, some}
use mathlib.Core.Bool.{Bool, true, false, ◌&&◌, true≢false}
use Prim.Native.Nat.{ℕ, ◌+◌, ◌≤◌}
use native.Mathlib.Omega.{arith}
use lib.Dec.{leb}
use lib.ListN.{length}
use borrow.Author.Tests.{leb-false, leb-true, not-false}
use Rattle.ring_log.specs.Key.{Key}
use Rattle.ring_log.specs.Map.{Map, lookup, alter, Sorted}
use Rattle.ring_log.specs.Ring.{room}
use Rattle.ring_log.specs.Answers.{Answer, refused, done, Lent, blocks, refuse, lent, missing, printed, put_answer, delete_answer}
use Rattle.ring_log.proofs.MapLaws.{or_zero, some≢none}
use Rattle.ring_log.proofs.MapMore.{total_alter, total_ones}

-- ---- a test that refuses with n

module _ {A : Type 0} where
  -- other numbers come from behind it
  refuse_never : (n k : ℕ) (t : Bool) (a : Answer A) → n ≢ k → a ≢ refused k → refuse n t a ≢ refused k
  unfolding refuse
  refuse_never n k true a d f e = d (let z : n ≡ k = cc in z)
  refuse_never n k false a d f e = f e

  pub done_never : (x : A) (k : ℕ) → done x ≢ refused k
  done_never x k e = let z : ◌≡◌ {A = ℕ} 0 1 = cc in omega arith

  -- where the test does not hold, it is not there
  refuse_not : (n : ℕ) (t : Bool) (a : Answer A) → t ≡ false → refuse n t a ≡ a
  unfolding refuse
  refuse_not n true a e = absurd (true≢false e)
  refuse_not n false a e = refl

  pub refuse_other : (n k : ℕ) (t : Bool) (a : Answer A) → n ≢ k → refuse n t a ≡ refused k → a ≡ refused k
  unfolding refuse
  refuse_other n k true a d e = absurd (d (let z : n ≡ k = cc in z))
  refuse_other n k false a d e = e

  -- the last test refuses only where it holds
  refuse_held : (n : ℕ) (t : Bool) (x : A) → refuse n t (done x) ≡ refused n → t ≡ true
  unfolding refuse
  refuse_held n true x e = refl
  refuse_held n false x e = absurd (done_never x n e)

  -- an answer that is done comes from behind it, and then the test did not hold
  pub refuse_done : (n : ℕ) (t : Bool) (a : Answer A) (x : A) → refuse n t a ≡ done x → (t ≡ false) × (a ≡ done x)
  unfolding refuse
  refuse_done n true a x e = absurd (let z : ◌≡◌ {A = ℕ} 0 1 = cc in omega arith)
  refuse_done n false a x e = (refl, e)

  pub done_is : (x y : A) → done x ≡ done y → x ≡ y
  done_is x y e = cc

  -- what every call tests first answers 5, 7 or 8
  lent_never : (l : Lent) (k : ℕ) (a : Answer A) → 5 ≢ k → 7 ≢ k → 8 ≢ k → a ≢ refused k → lent l a ≢ refused k
  lent_never l k a x y z f = refuse_never 5 k _ _ x (refuse_never 7 k _ _ y (refuse_never 8 k _ a z f))

  lent_done : (l : Lent) (a : Answer A) (x : A) → lent l a ≡ done x → a ≡ done x
  lent_done l a x e = (refuse_done 8 _ a x (refuse_done 7 _ _ x (refuse_done 5 _ _ x e).1).1).1

-- ---- NUMBER 9 IS NEVER ANSWERED: there are no numbers that run out

-- of a put
pub put_no_9 : (l : Lent) (k : Key) (v : List ℕ) (m : Map (List ℕ)) → put_answer l k v m ≢ refused 9
put_no_9 l k v m =
    lent_never l 9 _ (λ q. omega arith) (λ q. omega arith) (λ q. omega arith)
    (refuse_never 1 9 _ _ (λ q. omega arith) (refuse_never 1 9 _ _ (λ q. omega arith) (refuse_never 2 9 _ _ (λ q. omega arith) (refuse_never 3 9 _ _ (λ q. omega arith) (done_never _ 9)))))

-- of a delete
pub delete_no_9 : (l : Lent) (k : Key) (m : Map (List ℕ)) → delete_answer l k m ≢ refused 9
delete_no_9 l k m =
    lent_never l 9 _ (λ q. omega arith) (λ q. omega arith) (λ q. omega arith)
    (refuse_never 1 9 _ _ (λ q. omega arith) (refuse_never 4 9 _ _ (λ q. omega arith) (done_never _ 9)))

-- ---- ROOM

-- the test for room, where the key has a value
known_room : (b : ℕ) (o : Option (List ℕ)) (w : List ℕ) (m : Map (List ℕ)) → o ≡ some w → (missing o && leb (room b) (length m)) ≡ false
known_room b none w m e = absurd (some≢none (sym e))
known_room b (some u) w m e = refl

-- a put to a key that has a value is never refused for room
pub put_known : (l : Lent) (k : Key) (v w : List ℕ) (m : Map (List ℕ)) → lookup k m ≡ some w → put_answer l k v m ≢ refused 3
put_known l k v w m e =
    lent_never l 3 _ (λ q. omega arith) (λ q. omega arith) (λ q. omega arith)
    (refuse_never 1 3 _ _ (λ q. omega arith) (refuse_never 1 3 _ _ (λ q. omega arith)
    (refuse_never 2 3 _ _ (λ q. omega arith) (λ q. done_never _ 3 (sym (refuse_not 3 _ _ (known_room (blocks l) (lookup k m) w m e)) ∙ q)))))

-- and one is refused for room only where its key has no value yet and the map already has 8 (B - 2) keys
pub put_full : (l : Lent) (k : Key) (v : List ℕ) (m : Map (List ℕ)) → put_answer l k v m ≡ refused 3 → (lookup k m ≡ none) × (room (blocks l) ≤ length m)
put_full l k v m e = go (lookup k m) refl held
  where
    held : (missing (lookup k m) && leb (room (blocks l)) (length m)) ≡ true
    held =
        refuse_held 3 _ _
        (refuse_other 2 3 _ _ (λ q. omega arith)
        (refuse_other 1 3 _ _ (λ q. omega arith)
        (refuse_other 1 3 _ _ (λ q. omega arith)
        (refuse_other 8 3 _ _ (λ q. omega arith) (refuse_other 7 3 _ _ (λ q. omega arith) (refuse_other 5 3 _ _ (λ q. omega arith) e))))))

    go : (o : Option (List ℕ)) → lookup k m ≡ o → (missing o && leb (room (blocks l)) (length m)) ≡ true → (lookup k m ≡ none) × (room (blocks l) ≤ length m)
    go none h t = (h, leb-true (room (blocks l)) (length m) t)
    go (some u) h t = absurd (true≢false (sym t))

-- the count after an alteration, by whether the key had a value and has one now
pub count_alter : (k : Key) (o : Option (List ℕ)) (m : Map (List ℕ)) → Sorted m
    → length (alter k o m) + or_zero (λ v. 1) (lookup k m) ≡ length m + or_zero (λ v. 1) o
count_alter k o m s =
    omega (arith, total_alter (λ (v : List ℕ). 1) k o m s, total_ones (alter k o m), total_ones m)

-- ---- WHAT IS DONE: no test held, and the map is altered
pub put_done : (l : Lent) (k : Key) (v : List ℕ) (m n : Map (List ℕ)) → put_answer l k v m ≡ done n
    → (printed k ≡ true) × ((missing (lookup k m) && leb (room (blocks l)) (length m)) ≡ false) × (alter k (some v) m ≡ n)
put_done l k v m n e =
    let p = refuse_done 1 _ _ n (refuse_done 1 _ _ n (lent_done l _ n e)).1 in
    let q = refuse_done 3 _ _ n (refuse_done 2 _ _ n p.1).1 in
    (not-false _ p.0, q.0, done_is _ n q.1)

pub delete_done : (l : Lent) (k : Key) (m n : Map (List ℕ)) → delete_answer l k m ≡ done n → alter k none m ≡ n
delete_done l k m n e = done_is _ n (refuse_done 4 _ _ n (refuse_done 1 _ _ n (lent_done l _ n e)).1).1

-- THE MAP NEVER HAS MORE KEYS THAN THERE IS ROOM FOR
pub put_fits : (l : Lent) (k : Key) (v : List ℕ) (m n : Map (List ℕ)) → Sorted m → length m ≤ room (blocks l) → put_answer l k v m ≡ done n → length n ≤ room (blocks l)
put_fits l k v m n s few e =
    let d = put_done l k v m n e in
    go (lookup k m) refl d.1 d.2
  where
    go : (o : Option (List ℕ)) → lookup k m ≡ o → (missing o && leb (room (blocks l)) (length m)) ≡ false → alter k (some v) m ≡ n → length n ≤ room (blocks l)
    go none h t q =
        omega (arith, count_alter k (some v) m s, ap (or_zero (λ (u : List ℕ). 1)) h, leb-false (room (blocks l)) (length m) t, ap length q)
    go (some u) h t q = omega (arith, count_alter k (some v) m s, ap (or_zero (λ (u : List ℕ). 1)) h, ap length q)

-- after a delete
pub delete_fits : (l : Lent) (k : Key) (m n : Map (List ℕ)) → Sorted m → length m ≤ room (blocks l) → delete_answer l k m ≡ done n → length n ≤ room (blocks l)
delete_fits l k m n s few e = omega (arith, count_alter k none m s, ap length (delete_done l k m n e))
