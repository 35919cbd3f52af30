-- CHIPS OF VERSION 0.9.0 SAY WHAT THEY SAID: the map is made of what pages say, so that it is the same. Assumes nothing.
use mathlib.Core.Path.{◌≡◌, refl}
use mathlib.Core.Logic.{◌≢◌}
use mathlib.Core.Bool.{Bool, true, false, cond}
use mathlib.Core.Option.{Option, none}
use mathlib.Core.List.{List}
use Prim.Native.Nat.{ℕ}
use native.Mathlib.Decide.{ℕ_discrete}
use borrow.Author.Tests.{ne_eqb}
use Rattle.page.specs.Page.{byte, flipped, sound, ors}
use Rattle.page.proofs.Cut.{never_two}
use Rattle.chip.specs.Chip.{page_at}
use Rattle.record.specs.Record.{Rec, decode, rec_of, rec_at}
use Rattle.histories.specs.Old.{said_of}

-- a page of form 1
same_form : (pg : List ℕ) → byte pg 0 ≡ 1 → rec_of pg ≡ said_of pg
unfolding rec_of decode sound said_of
same_form pg e = rw e

-- one of no form: it says nothing, and said nothing, whether or not its second half is a flipped copy
no_form : (pg : List ℕ) → byte pg 0 ≢ 1 → byte pg 0 ≢ 2 → rec_of pg ≡ said_of pg
unfolding rec_of decode sound said_of
no_form pg a b = rw (ne_eqb (byte pg 0) 1 a, ne_eqb (byte pg 0) 2 b) (go (flipped pg))
  where
    go : (f : Bool) → ◌≡◌ {A = Option Rec} none (cond f none none)
    go true = refl
    go false = refl

-- A PAGE THAT DOESN'T CLAIM FORM 2 SAYS WHAT IT SAID
pub says_still : (pg : List ℕ) → byte pg 0 ≢ 2 → rec_of pg ≡ said_of pg
says_still pg b = go (ℕ_discrete (byte pg 0) 1)
  where
    go : Dec (byte pg 0 ≡ 1) → rec_of pg ≡ said_of pg
    go (yes e) = same_form pg e
    go (no a) = no_form pg a b

pub old_page_says : (c : List ℕ) (p : ℕ) → byte (page_at c p) 0 ≢ 2 → rec_at c p ≡ said_of (page_at c p)
unfolding rec_at
old_page_says c p b = says_still (page_at c p) b

-- and what that version wrote claims it never: its pages had a 1 there, and cut short have something odd
pub old_write_says : (pg ns : List ℕ) → byte pg 0 ≡ 1 → rec_of (ors pg ns) ≡ said_of (ors pg ns)
old_write_says pg ns e = says_still (ors pg ns) (never_two pg ns e)
