-- From line to line of a script, by the sessions of all lines.
use Rattle.std.proofs.Common.{◌≡◌, ◌∙◌, ℕ, zero, suc, ◌+◌, ◌<◌, false, List, [], ◌∷◌, ◌++◌, length, map, Option, Some, None, refl, sym, ap, subst}
use Rattle.std.specs.Prelude.{take, slice_get, get_or, is_some, unwrap_or}
use Rattle.std.specs.Option.{option_map}
use Rattle.std.specs.List.{AllByRecursion}
use Rattle.std.proofs.lemmas.List.{length-map, map-append, take_more}
use Rattle.std.proofs.lemmas.Option.{slice_get-get_or, slice_get-map}
use Rattle.std.proofs.lemmas.Bool.{false≢true}
use Rattle.ctr_types.specs.declared.statement.Line.{Line}

-- the line of a session that was found at a place
line_found : (lines : List Line) (k session : ℕ) (o : Option Line) → slice_get lines k ≡ o → Some session ≡ option_map (λ (l : Line). l.session) o → (l : Line) × (slice_get lines k ≡ Some l) × (l.session ≡ session)
line_found lines k session None there is = absurd (false≢true (sym (ap is_some is)))
line_found lines k session (Some l) there is = (l, there, ap (λ o. unwrap_or o session) (sym is))

-- the line of a session, by its place among all lines' sessions
pub line_there : (lines : List Line) (sessions : List ℕ) (k : ℕ) → sessions ≡ map (λ (l : Line). l.session) lines → k < length sessions → (l : Line) × (slice_get lines k ≡ Some l) × (l.session ≡ get_or sessions k 0)
line_there lines sessions k same below =
    line_found lines k (get_or sessions k 0) (slice_get lines k) refl (sym (slice_get-get_or sessions k 0 below) ∙ ap (λ ss. slice_get ss k) same ∙ slice_get-map (λ (l : Line). l.session) lines k)

-- the sessions of one line more
pub session_next : (lines : List Line) (k : ℕ) (l : Line) (before sessions : List ℕ) → before ≡ map (λ (x : Line). x.session) (take k lines) → sessions ≡ before ++ l.session ∷ [] → l ≡ get_or lines k l → k < length lines
    → sessions ≡ map (λ (x : Line). x.session) (take (k + 1) lines)
session_next lines k l before sessions was is at below =
    is ∙ ap (λ ss. ss ++ l.session ∷ []) was ∙ ap (λ (x : Line). map (λ (y : Line). y.session) (take k lines) ++ x.session ∷ []) at ∙ sym (map-append (λ (x : Line). x.session) (take k lines) (get_or lines k l ∷ []))
    ∙ sym (ap (map (λ (x : Line). x.session)) (take_more lines k l below))

-- there are as many sessions as lines
pub as_many : (lines : List Line) (sessions : List ℕ) → sessions ≡ map (λ (l : Line). l.session) lines → length sessions ≡ length lines
as_many lines sessions same = ap length same ∙ length-map lines (λ (l : Line). l.session)

-- each line of a list that has a property has it
pub line_has : (P : Line → Type 0) (lines : List Line) (k : ℕ) (l : Line) → AllByRecursion P lines → slice_get lines k ≡ Some l → P l
line_has P [] zero l all is = absurd (false≢true (ap is_some is))
line_has P [] (suc k) l all is = absurd (false≢true (ap is_some is))
line_has P (x ∷ xs) zero l all is = subst P (ap (λ o. unwrap_or o x) is) all.0
line_has P (x ∷ xs) (suc k) l all is = line_has P xs k l all.1 is
