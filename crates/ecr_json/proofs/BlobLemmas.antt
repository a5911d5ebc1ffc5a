-- What decoding gives is one of its two answers.
use Rattle.std.proofs.Common.{◌≡◌, ℕ, List, Ok, subst}
use Rattle.base64.specs.Engines.{standard}
use Rattle.base64.specs.GeneralPurpose.{decode_of, IsDecodeFailure}
use Rattle.base64.specs.declared.decode.DecodeError.{DecodeError}
use Rattle.base64.specs.declared.decode.DecodeAllocError.{DecodeAllocError}
use Rattle.base64.specs.declared.decode.DecodeAllocError.TheVariants.{DecodeError as Failed}
use Rattle.std.specs.declared.result.Result.{Result}
use Rattle.std.specs.declared.result.Result.TheVariants.{Err}

-- a result isn't both a value and an error
apart : {A E : Type 0} (r : Result A E) (a : A) (e : E) → r ≡ Err e → r ≡ Ok a → ⊥
apart r a e wrong right = cc

-- a text that isn't decoded has no bytes
pub refused : (text bytes : List ℕ) (e : DecodeAllocError) (d : DecodeError) → e ≡ Failed d
    → IsDecodeFailure standard text e → decode_of standard text ≡ Ok bytes → ⊥
refused text bytes e d is wrong right =
    apart (decode_of standard text) bytes d (subst (λ e. IsDecodeFailure standard text e) is wrong) right
