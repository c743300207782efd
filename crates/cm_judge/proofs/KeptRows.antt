-- The rows of the sources that are kept.
use Rattle.std.proofs.Common.{◌≡◌, ◌∙◌, refl, sym, ap, subst, Bool, true, false, List, [], ◌∷◌, map, Option, Some, None, Bor}
use Rattle.std.specs.Prelude.{find, is_some, option_map}
use Rattle.std.specs.Map.{lookup}
use Rattle.std.specs.Str.{bytes_eq}
use Rattle.cm_attempt.specs.Table.{change_first, has_text}
use Rattle.cm_stream.specs.Texts.{Utf8}
use Rattle.cm_state.specs.Summary.{SourceRow}
use Rattle.cm_envelope.specs.declared.pickle.Pickle.{Pickle}
use Rattle.cm_state.specs.StateChecks.{is_next_of}
use Rattle.cm_refs.proofs.EntryLemmas.{Key, found_entry, is_key}
use Rattle.cm_judge.specs.Kept.{kept_row, kept_rows}
use Rattle.cm_judge.specs.declared.kept_sources.KeptSource.{KeptSource}
use Rattle.cm_judge.specs.declared.kept_sources.KeptSource.TheVariants as kept

pub row_uri : (uri : Utf8) (k : KeptSource) → (kept_row uri k).uri ≡ uri
row_uri uri kept.Refused = refl
row_uri uri (kept.Accepted a) = refl

-- a row is found by its key
pub row_says : (uri t : Utf8) (k : KeptSource) → bytes_eq uri (kept_row t k).uri ≡ bytes_eq uri t
row_says uri t k = ap (bytes_eq uri) (row_uri t k)

pub moved_row : (uri : Utf8) (k : KeptSource) → kept_row uri k ≡ record (kept_row [] k) { uri = uri }
moved_row uri kept.Refused = refl
moved_row uri (kept.Accepted a) = refl

-- there is a row of a uri where it is one of the uris
pub row_listed : (uri : Utf8) (rows : List SourceRow) → is_some (find (λ r. bytes_eq uri r.uri) rows) ≡ has_text uri (map (λ r. r.uri) rows)
row_listed uri [] = refl
row_listed uri (r ∷ rows) = go (bytes_eq uri r.uri) refl (row_listed uri rows)
  where
    go : (b : Bool) → bytes_eq uri r.uri ≡ b → is_some (find (λ r. bytes_eq uri r.uri) rows) ≡ has_text uri (map (λ r. r.uri) rows)
        → is_some (find (λ r. bytes_eq uri r.uri) (r ∷ rows)) ≡ has_text uri (map (λ r. r.uri) (r ∷ rows))
    go true e rest = rw e refl
    go false e rest = rw e rest

pub row_absent : (uri : Utf8) (rows : List SourceRow) → has_text uri (map (λ r. r.uri) rows) ≡ false → find (λ r. bytes_eq uri r.uri) rows ≡ None
row_absent uri rows h = go (find (λ r. bytes_eq uri r.uri) rows) (row_listed uri rows ∙ h)
  where
    go : (o : Option SourceRow) → is_some o ≡ false → o ≡ None
    go None e = refl
    go (Some r) e = cc

-- a change of a row that keeps its uri keeps the list of them
pub changed_uris : (p : SourceRow → Bool) (f : SourceRow → SourceRow) → ((r : SourceRow) → (f r).uri ≡ r.uri) → (rows : List SourceRow)
    → map (λ r. r.uri) (change_first p f rows) ≡ map (λ r. r.uri) rows
changed_uris p f keeps [] = refl
changed_uris p f keeps (r ∷ rows) = go (p r) refl (changed_uris p f keeps rows)
  where
    go : (b : Bool) → p r ≡ b → map (λ r. r.uri) (change_first p f rows) ≡ map (λ r. r.uri) rows → map (λ r. r.uri) (change_first p f (r ∷ rows)) ≡ map (λ r. r.uri) (r ∷ rows)
    go true e rest = rw e (ap (λ t. t ∷ map (λ r. r.uri) rows) (keeps r))
    go false e rest = rw e (ap (λ ts. r.uri ∷ ts) rest)

-- what is asked of a row doesn't ask for its key
pub good_bare : (uri : Utf8) (k : KeptSource) → (kept_row uri k).is_accepted ≡ true → (kept_row [] k).is_accepted ≡ true
good_bare uri kept.Refused h = h
good_bare uri (kept.Accepted a) h = h

-- whether a row is found, by the list of the uris
pub listed_is : (uri : Utf8) (rows : List SourceRow) (o : Option SourceRow) → o ≡ find (λ r. bytes_eq uri r.uri) rows → has_text uri (map (λ r. r.uri) rows) ≡ is_some o
listed_is uri rows o e = sym (row_listed uri rows) ∙ sym (ap is_some e)

-- whether a key is there, by the list of the uris
pub key_listed : (t uri : Utf8) (es : List (Key × KeptSource)) (b : Bool) → t ≡ uri → b ≡ is_some (lookup (is_key t) es) → has_text uri (map (λ r. r.uri) (kept_rows es)) ≡ b
key_listed t uri es b same e =
    let row : option_map (kept_row t) (lookup (is_key t) es) ≡ find (λ r. bytes_eq t r.uri) (kept_rows es) = found_entry kept_row t (λ r. bytes_eq t r.uri) (row_says t) es in
    subst (λ u. has_text u (map (λ r. r.uri) (kept_rows es)) ≡ b) same
    (listed_is t (kept_rows es) (option_map (kept_row t) (lookup (is_key t) es)) row ∙ still (lookup (is_key t) es) ∙ sym e)
  where
    still : (o : Option KeptSource) → is_some (option_map (kept_row t) o) ≡ is_some o
    still None = refl
    still (Some k) = refl

-- what was found by an equal text
pub found_by : (t uri : Utf8) (o : Option (Bor KeptSource)) (rows : List SourceRow) → t ≡ uri
    → option_map (λ (k : Bor KeptSource). kept_row t k.now) o ≡ find (λ r. bytes_eq t r.uri) rows
    → option_map (λ (k : Bor KeptSource). kept_row uri k.now) o ≡ find (λ r. bytes_eq uri r.uri) rows
found_by t uri o rows e h = subst (λ t. option_map (λ (k : Bor KeptSource). kept_row t k.now) o ≡ find (λ r. bytes_eq t r.uri) rows) e h

pub found_kept : (uri : Utf8) (o : Option (Bor KeptSource)) (k : Bor KeptSource) (rows : List SourceRow) → o ≡ Some k
    → option_map (λ (k : Bor KeptSource). kept_row uri k.now) o ≡ find (λ r. bytes_eq uri r.uri) rows → Some (kept_row uri k.now) ≡ find (λ r. bytes_eq uri r.uri) rows
found_kept uri o k rows e h = sym (ap (option_map (λ (k : Bor KeptSource). kept_row uri k.now)) e) ∙ h

pub found_none : (uri : Utf8) (o : Option (Bor KeptSource)) (rows : List SourceRow) → o ≡ None
    → option_map (λ (k : Bor KeptSource). kept_row uri k.now) o ≡ find (λ r. bytes_eq uri r.uri) rows → None ≡ find (λ r. bytes_eq uri r.uri) rows
found_none uri o rows e h = sym (ap (option_map (λ (k : Bor KeptSource). kept_row uri k.now)) e) ∙ h

pub next_bare : (uri : Utf8) (p : Pickle) (k : KeptSource) → is_next_of p (kept_row uri k) ≡ is_next_of p (kept_row [] k)
next_bare uri p kept.Refused = refl
next_bare uri p (kept.Accepted a) = refl
