-- What a word of a script stands for.
use Rattle.std.specs.Prelude.{ℕ, List, take}
use Rattle.trying.specs.declared.words.Text.{Text}

-- The first so many bytes: at most all.
abbrev pub spelt : Text → List ℕ
spelt b = take b.length b.all
