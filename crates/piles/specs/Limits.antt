-- Limits of quotas.
use Rattle.std.specs.Prelude.{ℕ, Option, Some, None, max}

-- How many records a quota lets in: a limit of 0 is taken as 1, and no limit as the most that 32 bits can say.
abbrev pub quota_of : Option ℕ → ℕ
quota_of None = 4294967295
quota_of (Some limit) = max 1 limit
