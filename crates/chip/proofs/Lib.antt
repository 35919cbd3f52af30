pub mod Loops
pub mod Splice
pub mod Power
pub mod Pages
pub mod CutErase
pub mod Plays
