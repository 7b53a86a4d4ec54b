-- What reading returns: the first line that is wrong, or else what the file says.
use Rattle.std.specs.Prelude.{◌≡◌, Option, Some, None, Result, Ok, Err}
use Rattle.normalizer_ucd.specs.declared.error.Place.{Place}
use Rattle.normalizer_ucd.specs.declared.error.Problem.{Problem}
use Rattle.normalizer_ucd.specs.declared.error.LineFault.{LineFault}
use Rattle.normalizer_ucd.specs.declared.error.UcdError.{UcdError}
use Rattle.normalizer_ucd.specs.declared.error.UcdError.TheVariants as errors

abbrev pub fault : Place → Problem → LineFault
fault place problem = record { place = place; problem = problem }

-- the fault if there is one, or else the value
abbrev pub unless : {A : Type 0} → Option LineFault → A → Result A LineFault
unless (Some f) x = Err f
unless None x = Ok x

-- the error is the fault that reading meets, or memory ran out
abbrev pub Fails : {Y : Type 0} → UcdError → Result Y LineFault → Type 0
Fails errors.Memory read = Unit {0}
Fails (errors.Line f) read = read ≡ Err f

-- what was returned, through `view`, is what reading yields, unless memory ran out
abbrev pub Gives : {X Y : Type 0} → (X → Y) → Result X UcdError → Result Y LineFault → Type 0
Gives view (Ok x) read = read ≡ Ok (view x)
Gives view (Err e) read = Fails e read
