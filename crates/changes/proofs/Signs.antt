-- The sign of the code is that of the rules. Assumes nothing.
use mathlib.Core.Path.{◌≡◌, refl}
use Rattle.rules.specs.Losses as rules
use Rattle.rules.specs.Losses.{minus, plus}
use Rattle.rules.specs.Preferred.{sign_rank}
use Rattle.changes.specs.declared.Sign.{Sign}
use Rattle.changes.specs.declared.Sign.TheVariants.{Minus, Plus}
use Rattle.changes.specs.Signs.{sign_number, sign_of_byte}

-- what is read of a sign that is spelled
abbrev pub sign_read : rules.Sign → Sign
sign_read minus = Minus
sign_read plus = Plus

-- it is stored as the rules rank it
pub sign_ranked : (s : rules.Sign) → sign_number (sign_read s) ≡ sign_rank s
sign_ranked minus = refl
sign_ranked plus = refl

-- and told by what is stored
pub sign_again : (s : rules.Sign) → sign_of_byte (sign_rank s) ≡ sign_read s
sign_again minus = refl
sign_again plus = refl
