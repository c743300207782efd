-- What a list of options says of an option, as the rows hold it.
use Rattle.std.proofs.Common.{◌≡◌, ◌∙◌, ◌&&◌, ◌||◌, Bool, true, false, List, [], ◌∷◌, ◌++◌, Option, Some, None, refl, sym, ap, append_assoc, append-nil}
use Rattle.std.proofs.lemmas.Bool.{false≢true}
use Rattle.std.specs.Prelude.{codes, if◌then◌else◌}
use Rattle.std.specs.List.{list_all}
use Rattle.std.specs.Str.{bytes_eq}
use Rattle.clap.specs.Words.{Text}
use Rattle.ck_command_line.specs.CommandLine.{features_named, has_two_inputs, is_given, is_tag, runs_named, tags_allowed}
use Rattle.ck_command_line.specs.Asked.{WrittenWord, features, allow_unrun, allow_unrun_tagged, no_retries, no_skips, no_stepless, no_undefined, strict, as_json, pending_passes, attempts_from, allow_redeclared, run}
use Rattle.ck_command_line.specs.Asked.{features_of, has_name, is_there, number_of, runs_of, runs_written, tags_of}
use Rattle.ck_command_line.proofs.Rows.{first_text, is_on, said_by}

-- the value of an option
abbrev pub text_of : WrittenWord → Text
text_of (features is_one_word path) = path
text_of (allow_unrun_tagged is_one_word tag) = tag
text_of (attempts_from is_one_word number) = number
text_of (run word) = word
text_of _ = codes "true"

-- what is there after the options, of what was there before
abbrev pub said_all : Text → List WrittenWord → Option (List Text) → Option (List Text)
said_all name [] old = old
said_all name (option ∷ options) old = said_all name options (said_by (has_name name option) (text_of option ∷ []) old)

-- the first value stays
stays : (name : Text) (options : List WrittenWord) (v : Text) (vs : List Text) → first_text (said_all name options (Some (v ∷ vs))) ≡ Some v
stays name [] v vs = refl
stays name (option ∷ options) v vs = go (has_name name option) (stays name options v vs) (stays name options v (vs ++ text_of option ∷ []))
  where
    go : (here : Bool) → first_text (said_all name options (Some (v ∷ vs))) ≡ Some v → first_text (said_all name options (Some (v ∷ (vs ++ text_of option ∷ [])))) ≡ Some v
        → first_text (said_all name options (said_by here (text_of option ∷ []) (Some (v ∷ vs)))) ≡ Some v
    go true a b = b
    go false a b = a

-- the value of the first option of the name
abbrev first_said : Text → List WrittenWord → Option Text
first_said name [] = None
first_said name (option ∷ options) = if has_name name option then Some (text_of option) else first_said name options

pub first_all : (name : Text) (options : List WrittenWord) → first_text (said_all name options None) ≡ first_said name options
first_all name [] = refl
first_all name (option ∷ options) = go (has_name name option) (stays name options (text_of option) []) (first_all name options)
  where
    go : (here : Bool) → first_text (said_all name options (Some (text_of option ∷ []))) ≡ Some (text_of option) → first_text (said_all name options None) ≡ first_said name options
        → first_text (said_all name options (said_by here (text_of option ∷ []) None)) ≡ (if here then Some (text_of option) else first_said name options)
    go true a b = a
    go false a b = b

-- ---- flags

-- the name is neither that of an option with a value nor that of a run
abbrev pub IsFlag : Text → Type 0
IsFlag name = (bytes_eq name (codes "features") ≡ false) × (bytes_eq name (codes "allow-unrun-tagged") ≡ false) × (bytes_eq name (codes "attempts-from") ≡ false) × (bytes_eq name (codes "run") ≡ false)

says_true : (name : Text) → IsFlag name → (option : WrittenWord) → has_name name option ≡ true → text_of option ≡ codes "true"
says_true name flag (features w path) h = absurd (false≢true (sym flag.0 ∙ h))
says_true name flag allow_unrun h = refl
says_true name flag (allow_unrun_tagged w tag) h = absurd (false≢true (sym flag.1 ∙ h))
says_true name flag no_retries h = refl
says_true name flag no_skips h = refl
says_true name flag no_stepless h = refl
says_true name flag no_undefined h = refl
says_true name flag strict h = refl
says_true name flag as_json h = refl
says_true name flag pending_passes h = refl
says_true name flag (attempts_from w n) h = absurd (false≢true (sym flag.2 ∙ h))
says_true name flag allow_redeclared h = refl
says_true name flag (run w) h = absurd (false≢true (sym flag.3 ∙ h))

flag_first : (name : Text) → IsFlag name → (options : List WrittenWord) → is_given (first_said name options) ≡ is_there name options
flag_first name flag [] = refl
flag_first name flag (option ∷ options) = go (has_name name option) refl (flag_first name flag options)
  where
    go : (here : Bool) → has_name name option ≡ here → is_given (first_said name options) ≡ is_there name options
        → is_given (if here then Some (text_of option) else first_said name options) ≡ (here || is_there name options)
    go true e more = ap (λ (t : Text). is_given (Some t)) (says_true name flag option e)
    go false e more = more

pub flag_said : (name : Text) → IsFlag name → (options : List WrittenWord) → is_on (said_all name options None) ≡ is_there name options
flag_said name flag options = ap is_given (first_all name options) ∙ flag_first name flag options

-- ---- the number

number_first : (options : List WrittenWord) → first_said (codes "attempts-from") options ≡ number_of options
number_first [] = refl
number_first (features w path ∷ options) = number_first options
number_first (allow_unrun ∷ options) = number_first options
number_first (allow_unrun_tagged w tag ∷ options) = number_first options
number_first (no_retries ∷ options) = number_first options
number_first (no_skips ∷ options) = number_first options
number_first (no_stepless ∷ options) = number_first options
number_first (no_undefined ∷ options) = number_first options
number_first (strict ∷ options) = number_first options
number_first (as_json ∷ options) = number_first options
number_first (pending_passes ∷ options) = number_first options
number_first (attempts_from w n ∷ options) = refl
number_first (allow_redeclared ∷ options) = number_first options
number_first (run w ∷ options) = number_first options

pub number_said : (options : List WrittenWord) → first_text (said_all (codes "attempts-from") options None) ≡ number_of options
number_said options = first_all (codes "attempts-from") options ∙ number_first options

-- ---- the values of what may come again

-- the values of the name, in their order
abbrev values_said : Text → List WrittenWord → List Text
values_said name [] = []
values_said name (option ∷ options) = if has_name name option then text_of option ∷ values_said name options else values_said name options

more_said : (name : Text) (options : List WrittenWord) (values : List Text) → said_all name options (Some values) ≡ Some (values ++ values_said name options)
more_said name [] values = ap Some (sym (append-nil values))
more_said name (option ∷ options) values = go (has_name name option) (more_said name options values) (more_said name options (values ++ text_of option ∷ []))
  where
    go : (here : Bool) → said_all name options (Some values) ≡ Some (values ++ values_said name options) → said_all name options (Some (values ++ text_of option ∷ [])) ≡ Some ((values ++ text_of option ∷ []) ++ values_said name options)
        → said_all name options (said_by here (text_of option ∷ []) (Some values)) ≡ Some (values ++ (if here then text_of option ∷ values_said name options else values_said name options))
    go true a b = b ∙ ap Some (append_assoc values (text_of option ∷ []) (values_said name options))
    go false a b = a

all_said : (name : Text) (options : List WrittenWord) → said_all name options None ≡ (if is_there name options then Some (values_said name options) else None)
all_said name [] = refl
all_said name (option ∷ options) = go (has_name name option) (more_said name options (text_of option ∷ [])) (all_said name options)
  where
    go : (here : Bool) → said_all name options (Some (text_of option ∷ [])) ≡ Some (text_of option ∷ values_said name options) → said_all name options None ≡ (if is_there name options then Some (values_said name options) else None)
        → said_all name options (said_by here (text_of option ∷ []) None) ≡ (if here || is_there name options then Some (if here then text_of option ∷ values_said name options else values_said name options) else None)
    go true a b = a
    go false a b = b

none_said : (name : Text) (options : List WrittenWord) → is_there name options ≡ false → values_said name options ≡ []
none_said name [] h = refl
none_said name (option ∷ options) h = go (has_name name option) h (none_said name options)
  where
    go : (here : Bool) → (here || is_there name options) ≡ false → (is_there name options ≡ false → values_said name options ≡ []) → (if here then text_of option ∷ values_said name options else values_said name options) ≡ []
    go true e more = absurd (false≢true (sym e))
    go false e more = more e

-- ---- the tags

tags_are : (options : List WrittenWord) → values_said (codes "allow-unrun-tagged") options ≡ tags_of options
tags_are [] = refl
tags_are (features w path ∷ options) = tags_are options
tags_are (allow_unrun ∷ options) = tags_are options
tags_are (allow_unrun_tagged w tag ∷ options) = ap (λ (tags : List Text). tag ∷ tags) (tags_are options)
tags_are (no_retries ∷ options) = tags_are options
tags_are (no_skips ∷ options) = tags_are options
tags_are (no_stepless ∷ options) = tags_are options
tags_are (no_undefined ∷ options) = tags_are options
tags_are (strict ∷ options) = tags_are options
tags_are (as_json ∷ options) = tags_are options
tags_are (pending_passes ∷ options) = tags_are options
tags_are (attempts_from w n ∷ options) = tags_are options
tags_are (allow_redeclared ∷ options) = tags_are options
tags_are (run w ∷ options) = tags_are options

allowed : (unrun has : Bool) (tags : List Text) → (has ≡ false → tags ≡ []) → tags_allowed unrun (if has then Some tags else None) ≡ (if unrun && has then None else if list_all is_tag tags then Some tags else None)
allowed true true tags none = refl
allowed false true tags none = refl
allowed true false tags none = rw (none refl) refl
allowed false false tags none = rw (none refl) refl

-- whether a tag is there
abbrev has_tags : List WrittenWord → Bool
has_tags options = is_there (codes "allow-unrun-tagged") options

pub tags_taken : (unrun : Bool) (options : List WrittenWord)
    → tags_allowed unrun (said_all (codes "allow-unrun-tagged") options None) ≡ (if unrun && has_tags options then None else if list_all is_tag (tags_of options) then Some (tags_of options) else None)
tags_taken unrun options =
    ap (tags_allowed unrun) (all_said (codes "allow-unrun-tagged") options)
    ∙ allowed unrun (has_tags options) (values_said (codes "allow-unrun-tagged") options) (none_said (codes "allow-unrun-tagged") options)
    ∙ ap (λ (tags : List Text). if unrun && has_tags options then None else if list_all is_tag tags then Some tags else None) (tags_are options)

-- ---- the runs

runs_are : (options : List WrittenWord) → values_said (codes "run") options ≡ runs_of options
runs_are [] = refl
runs_are (features w path ∷ options) = runs_are options
runs_are (allow_unrun ∷ options) = runs_are options
runs_are (allow_unrun_tagged w tag ∷ options) = runs_are options
runs_are (no_retries ∷ options) = runs_are options
runs_are (no_skips ∷ options) = runs_are options
runs_are (no_stepless ∷ options) = runs_are options
runs_are (no_undefined ∷ options) = runs_are options
runs_are (strict ∷ options) = runs_are options
runs_are (as_json ∷ options) = runs_are options
runs_are (pending_passes ∷ options) = runs_are options
runs_are (attempts_from w n ∷ options) = runs_are options
runs_are (allow_redeclared ∷ options) = runs_are options
runs_are (run w ∷ options) = ap (λ (runs : List Text). w ∷ runs) (runs_are options)

taken : (has : Bool) (runs : List Text) → (has ≡ false → runs ≡ []) → runs_named (if has then Some runs else None) ≡ (if has_two_inputs runs then None else Some runs)
taken true runs none = refl
taken false runs none = rw (none refl) refl

pub runs_taken : (options : List WrittenWord) → runs_named (said_all (codes "run") options None) ≡ runs_written options
runs_taken options =
    ap runs_named (all_said (codes "run") options) ∙ taken (is_there (codes "run") options) (values_said (codes "run") options) (none_said (codes "run") options)
    ∙ ap (λ (runs : List Text). if has_two_inputs runs then None else Some runs) (runs_are options)

-- ---- the paths of feature files

paths_are : (options : List WrittenWord) → values_said (codes "features") options ≡ features_of options
paths_are [] = refl
paths_are (features w path ∷ options) = ap (λ (paths : List Text). path ∷ paths) (paths_are options)
paths_are (allow_unrun ∷ options) = paths_are options
paths_are (allow_unrun_tagged w tag ∷ options) = paths_are options
paths_are (no_retries ∷ options) = paths_are options
paths_are (no_skips ∷ options) = paths_are options
paths_are (no_stepless ∷ options) = paths_are options
paths_are (no_undefined ∷ options) = paths_are options
paths_are (strict ∷ options) = paths_are options
paths_are (as_json ∷ options) = paths_are options
paths_are (pending_passes ∷ options) = paths_are options
paths_are (attempts_from w n ∷ options) = paths_are options
paths_are (allow_redeclared ∷ options) = paths_are options
paths_are (run w ∷ options) = paths_are options

given : (unrun has : Bool) (paths : List Text) → (has ≡ false → paths ≡ []) → features_named unrun (if has then Some paths else None) ≡ (if unrun && has then None else Some paths)
given true true paths none = refl
given false true paths none = refl
given true false paths none = rw (none refl) refl
given false false paths none = rw (none refl) refl

-- whether a path is there
abbrev has_paths : List WrittenWord → Bool
has_paths options = is_there (codes "features") options

pub features_taken : (unrun : Bool) (options : List WrittenWord)
    → features_named unrun (said_all (codes "features") options None) ≡ (if unrun && has_paths options then None else Some (features_of options))
features_taken unrun options =
    ap (features_named unrun) (all_said (codes "features") options)
    ∙ given unrun (has_paths options) (values_said (codes "features") options) (none_said (codes "features") options)
    ∙ ap (λ (paths : List Text). if unrun && has_paths options then None else Some paths) (paths_are options)
