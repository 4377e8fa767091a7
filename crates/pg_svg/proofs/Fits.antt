-- Columns stand within the numbers of the program.
use Rattle.std.proofs.Common.{ℕ, ◌<◌, ◌*◌, ◌^◌}
use Rattle.std.proofs.lemmas.Nat.{mul-lt}

pub columns_fit : (half server : ℕ) → half < 2 ^ 16 → server < 2 ^ 32 → half * server < 2 ^ 48
columns_fit half server narrow few = mul-lt half server (2 ^ 16) (2 ^ 32) narrow few
