-- `survey::see` meets its contract. Assumes nothing.
use Rattle.survey.proofs.Counts.{see_blank, see_sound}
use Rattle.survey.proofs.see.Goals as goal

pub returns-in-Blank : goal.returns-in-Blank
returns-in-Blank c = see_blank _ _ c.requires.0 _ c.in-Blank.is

pub returns-in-Sound : goal.returns-in-Sound
returns-in-Sound c = see_sound _ _ c.requires.0 _ c.in-Sound.is
