-- The texts of aggregate functions and truths mean what they were made of.
use Rattle.std.proofs.Common.{◌≡◌, Bool, true, false, Some, refl}
use Rattle.pm_options.specs.Kinds.{function_in, function_text, truth_in, truth_text}
use Rattle.pm_options.specs.declared.kinds.Function.{Function}
use Rattle.pm_options.specs.declared.kinds.Function.TheVariants as functions

-- a function is read from its text
pub function_in-function_text : (f : Function) → function_in (function_text f) ≡ Some f
function_in-function_text functions.Sum = refl
function_in-function_text functions.Max = refl
function_in-function_text functions.Min = refl
function_in-function_text functions.LastValue = refl
function_in-function_text functions.LastNonNullValue = refl
function_in-function_text functions.FirstValue = refl
function_in-function_text functions.FirstNonNullValue = refl
function_in-function_text functions.ListAgg = refl
function_in-function_text functions.BoolAnd = refl
function_in-function_text functions.BoolOr = refl

-- so is a truth
pub truth_in-truth_text : (b : Bool) → truth_in (truth_text b) ≡ Some b
truth_in-truth_text true = refl
truth_in-truth_text false = refl
