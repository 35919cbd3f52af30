-- What the code's answers say. Assumes nothing.
use Rattle.std.specs.Prelude.{◌≡◌, List, [], ℕ, ◌≤◌, ◌<◌, length, get_or, set, Result, Ok, Err}
use Rattle.ring_log.specs.Key.{Key, ◌≺◌}
use Rattle.index.specs.Index.{insert_at, remove_at}
use Rattle.std.specs.declared.cmp.Ordering.{Ordering}
use Rattle.std.specs.declared.cmp.Ordering.TheVariants.{Less, Equal, Greater}

-- how a stands to b
abbrev pub ComparedBy : Key → Key → Ordering → Type 0
ComparedBy a b Less = a ≺ b
ComparedBy a b Equal = a ≡ b
ComparedBy a b Greater = b ≺ a

-- (a record around it, here and below, so that antt finds the arguments)
pub record Compared (a b : Key) (r : Ordering) : Type 0 where
  pub says : ComparedBy a b r

-- the place is one of n entries, or one where another can be put in
abbrev pub Within : ℕ → Result ℕ ℕ → Type 0
Within n (Ok i) = i < n
Within n (Err i) = i ≤ n

-- k is the key at i; or it is none of the keys: those before i come before it, and those from i on after it
abbrev pub FindsBy : List Key → Key → Result ℕ ℕ → Type 0
FindsBy ks k (Ok i) = (i < length ks) × (k ≡ get_or ks i [])
FindsBy ks k (Err i) = (i ≤ length ks) × ((j : ℕ) → j < i → get_or ks j [] ≺ k) × ((j : ℕ) → i ≤ j → j < length ks → k ≺ get_or ks j [])

pub record Finds (ks : List Key) (k : Key) (r : Result ℕ ℕ) : Type 0 where
  pub says : FindsBy ks k r

-- the entries with page x for the key that was found or missed, and without one
abbrev pub put_at : Result ℕ ℕ → ℕ → List ℕ → List ℕ
put_at (Ok i) x ps = set ps i x
put_at (Err i) x ps = insert_at i x ps

abbrev pub take_out : Result ℕ ℕ → List ℕ → List ℕ
take_out (Ok i) ps = remove_at i ps
take_out (Err i) ps = ps
