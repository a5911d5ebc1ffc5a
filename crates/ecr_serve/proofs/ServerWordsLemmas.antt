-- What the parser says of a server's words.
use Rattle.std.proofs.Common.{◌≡◌, ◌∙◌, ◌≤◌, ◌<◌, ◌^◌, ℕ, true, List, [], Option, Some, None, Ok, Err, Result, ap, arith, length, refl, sym}
use Rattle.std.proofs.lemmas.List.{length-map}
use Rattle.std.specs.Prelude.{IfErr, IfOk, IsSomeAnd, MatchOption, decimal}
use Rattle.std.proofs.lemmas.Fmt.{decimal_injective}
use Rattle.clap.specs.Words.{FailsBy, HasKind, Kinds, Row, Text, found_of, is_simple, is_simple_and_free, rows_of}
use Rattle.clap.specs.declared.error.Error.{Error}
use Rattle.clap.specs.declared.builder.range.ValueRange.{ValueRange}
use Rattle.clap.specs.declared.parser.matches.ArgMatches.{ArgMatches}
use Rattle.clap.proofs.OnLiterals.{clap_on_literals}
use Rattle.ecr_model.specs.declared.names.SiteId.{SiteId}
use Rattle.ecr_model.specs.names.Sites.{site_word}
use Rattle.ecr_serve.specs.Server.{AreSiteTexts, IsNoCount, serve_app}

-- the command is one of which the parser's matches and kinds of errors are known
pub serve_app-simple : is_simple serve_app ≡ true
unfolding clap_on_literals
serve_app-simple = refl

pub serve_app-free : is_simple_and_free serve_app ≡ true
unfolding clap_on_literals
serve_app-free = refl

-- where words are taken they have no fault, and the texts are those of the matches
pub parsed : (kinds : Kinds) (rows : List Row) (r : Result ArgMatches Error) → FailsBy kinds r
    → IfOk r (λ m. rows_of (found_of m) ≡ rows)
    → IfOk r (λ m. (kinds ≡ []) × (rows_of (found_of m) ≡ rows))
parsed kinds rows (Ok m) fails has = (fails, has)
parsed kinds rows (Err e) fails has = tt

-- where they aren't, the error has one of their faults
pub failed : (kinds : Kinds) (r : Result ArgMatches Error) → FailsBy kinds r → IfErr r (HasKind kinds)
failed kinds (Ok m) fails = tt
failed kinds (Err e) fails = fails

-- an option that is known to be so
pub range_is : (o : Option ValueRange) (r : ValueRange) → IsSomeAnd o (λ v. v ≡ r) → o ≡ Some r
range_is (Some v) r h = ap Some h
range_is None r h = absurd h

-- 0 is no count
pub no_count-zero : (usual most : ℕ) (word : List ℕ) (n : ℕ) → most < 2 ^ 32 → n ≡ 0 → word ≡ decimal n
    → IsNoCount usual most (Some word)
no_count-zero usual most word n small zero spelled count h =
    let some = h.1 in
    let at_most = h.2 in
    let same : n ≡ count = decimal_injective n count (omega arith) (omega arith) (sym spelled ∙ h.0) in
    absurd (omega arith)

-- the sites of a server are some
pub some_sites : (texts : Option (List Text)) (sites : List SiteId) → AreSiteTexts texts sites → 0 < length sites
some_sites None sites h = absurd h
some_sites (Some words) sites h =
    let some = h.1 in omega (arith, ap length h.0.spelled, length-map sites site_word)

module _ {X : Type 0} {P Q : X → Type 0} {N M : Type 0} where
  -- what is said of an option by its cases, in other words
  pub MatchOption-weaker : (o : Option X) → (N → M) → ((x : X) → P x → Q x) → MatchOption o N P → MatchOption o M Q
  MatchOption-weaker None none some h = none h
  MatchOption-weaker (Some x) none some h = some x h
