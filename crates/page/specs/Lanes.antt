-- The order in which the code counts the 1 bits of a page: four lanes, and of each every fourth number of eight bytes. Assumes nothing.
use Rattle.std.specs.Prelude.{List, ℕ, ◌+◌}
use Rattle.std.specs.Int.Count.{ones}
use Rattle.page.specs.Page.{byte}

-- the 1 bits of the eight bytes from byte a on
unfoldable pub ones_at : List ℕ → ℕ → ℕ
ones_at pg a =
    ones (byte pg a) + ones (byte pg (a + 1)) + ones (byte pg (a + 2)) + ones (byte pg (a + 3)) + ones (byte pg (a + 4)) + ones (byte pg (a + 5))
    + ones (byte pg (a + 6)) + ones (byte pg (a + 7))

-- and of a lane, from byte a on every 32 bytes
unfoldable pub ones_lane : List ℕ → ℕ → ℕ
ones_lane pg a =
    ones_at pg a + ones_at pg (a + 32) + ones_at pg (a + 64) + ones_at pg (a + 96) + ones_at pg (a + 128) + ones_at pg (a + 160) + ones_at pg (a + 192)
    + ones_at pg (a + 224)
