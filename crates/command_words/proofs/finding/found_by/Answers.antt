use Rattle.std.proofs.Common.{◌≡◌, List, [], ◌∷◌, None, Some, ◌∙◌, refl, sym, ap, inl, inr}
use Rattle.clap.specs.Words.{Row, Kinds, HasKind, kind_of, matches_of, fault_of, app_of}
use Rattle.clap.specs.declared.error.Error.{Error}
use Rattle.clap.specs.declared.error.kind.ErrorKind.TheVariants as kind
use Rattle.command_words.specs.Words.{unless_refused}
use Rattle.command_words.proofs.Apps.{simple_where_free}
use Rattle.command_words.proofs.finding.found_by.Goals as goal

-- an error of another kind than memory has one of the kinds
is_refused : (kinds : Kinds) (rows : List Row) (e : Error) → HasKind kinds e → (kind_of e ≡ kind.OutOfMemory → ⊥) → unless_refused kinds rows ≡ None
is_refused [] rows e (inl memory) other = absurd (other memory)
is_refused [] rows e (inr none) other = absurd none
is_refused (kind ∷ kinds) rows e has other = refl

-- what a command refuses none of the words for is what it finds
is_found : (kinds : Kinds) (rows found : List Row) → kinds ≡ [] → found ≡ rows → unless_refused kinds rows ≡ Some found
is_found kinds rows found none same = ap (λ some. unless_refused some rows) none ∙ ap Some (sym same)

pub returns-in-Ok-clause-ok : goal.returns-in-Ok-clause-ok
returns-in-Ok-clause-ok c =
    let app = app_of c.args.command in
    let matches = c.in-Ok.ensures.matches (simple_where_free app c.requires) in
    is_found (fault_of app _) (matches_of app _) _ (c.in-Ok.ensures.kinds c.requires) matches.0

pub returns-in-Err-clause-err : goal.returns-in-Err-clause-err
returns-in-Err-clause-err c = λ usage.
    let app = app_of c.args.command in
    is_refused (fault_of app _) (matches_of app _) c.in-Err.error (c.in-Err.ensures.kinds c.requires)
    (λ memory. c.fault_of.ensures usage (c.kind.ensures ∙ memory))
