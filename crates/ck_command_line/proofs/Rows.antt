-- What the rows of a command hold of an option, after each use of one and after the defaults.
use Rattle.std.proofs.Common.{◌≡◌, ◌∙◌, ◌⊎◌, ◌||◌, Bool, true, false, List, [], ◌∷◌, ◌++◌, Option, Some, None, refl, sym, ap, subst, inl, inr, option_map, fold, is_some}
use Rattle.std.proofs.lemmas.Bool.{false_from_ne_true, true≢false}
use Rattle.std.proofs.lemmas.Slice.Eq.{bytes_eq-Decides}
use Rattle.std.specs.Prelude.{codes, if◌then◌else◌, find, slice_get, option_and_then}
use Rattle.std.specs.Option.{unwrap_or}
use Rattle.std.specs.List.{AllByRecursion}
use Rattle.std.specs.Str.{bytes_eq}
use Rattle.clap.specs.Words.{Kinds, Row, Rule, Text, all_of, first_of}
use Rattle.clap.specs.Walk.{at_row, default_rows, has_row, is_empty, more_values, reading_by, with_default, with_values, without}
use Rattle.clap.specs.Faults.{defaults_fault, given_default_fault}
use Rattle.clap.specs.declared.builder.value_parser.Reading.{Reading}
use Rattle.clap.specs.declared.parser.matches.ValueSource.{ValueSource}
use Rattle.clap.specs.declared.parser.matches.ValueSource.TheVariants.{CommandLine, DefaultValue}
use Rattle.ck_command_line.specs.CommandLine.{is_given}

same_id : (x y : Text) → bytes_eq x y ≡ true → x ≡ y
same_id x y h = (bytes_eq-Decides x y).0 h

other_id : (x y : Text) → bytes_eq x y ≡ false → bytes_eq y x ≡ false
other_id x y h = false_from_ne_true (bytes_eq y x) (λ same. true≢false (sym ((bytes_eq-Decides x y).1 (sym (same_id y x same))) ∙ h))

itself : (x : Text) → bytes_eq x x ≡ true
itself x = (bytes_eq-Decides x x).1 refl

-- ---- looking for the values of an option

skipped : (b : Text) (r : Row) (rs : List Row) → bytes_eq r.id b ≡ false → all_of b (r ∷ rs) ≡ all_of b rs
skipped b r rs e = rw e refl

first_row : (b : Text) (r : Row) (rs : List Row) → bytes_eq r.id b ≡ true → all_of b (r ∷ rs) ≡ Some r.values
first_row b r rs e = rw e refl

after_same : (b : Text) (r : Row) (xs ys : List Row) → all_of b xs ≡ all_of b ys → all_of b (r ∷ xs) ≡ all_of b (r ∷ ys)
after_same b r xs ys same = go (bytes_eq r.id b)
  where
    go : (here : Bool) → option_map (λ (q : Row). q.values) (if here then Some r else find (λ q. bytes_eq q.id b) xs) ≡ option_map (λ (q : Row). q.values) (if here then Some r else find (λ q. bytes_eq q.id b) ys)
    go true = refl
    go false = same

-- a change at one option leaves the others
at_other : (id b : Text) (change : Row → List Row) (missing rows : List Row) → bytes_eq id b ≡ false
    → ((r : Row) (rest : List Row) → bytes_eq r.id b ≡ false → all_of b (change r ++ rest) ≡ all_of b rest) → all_of b missing ≡ None
    → all_of b (at_row id change missing rows) ≡ all_of b rows
at_other id b change missing [] other keeps none = none
at_other id b change missing (r ∷ rs) other keeps none = go (bytes_eq r.id id) refl (at_other id b change missing rs other keeps none)
  where
    go : (here : Bool) → bytes_eq r.id id ≡ here → all_of b (at_row id change missing rs) ≡ all_of b rs → all_of b (if here then change r ++ rs else r ∷ at_row id change missing rs) ≡ all_of b (r ∷ rs)
    go true e more =
        let differs : bytes_eq r.id b ≡ false = subst (λ (x : Text). bytes_eq x b ≡ false) (sym (same_id r.id id e)) other in
        keeps r rs differs ∙ sym (skipped b r rs differs)
    go false e more = after_same b r (at_row id change missing rs) rs more

module _ (id : Text) (how : Reading) (source : ValueSource) (values : List Text) where
  new_row : Row
  new_row = record { id = id; values = values; count = None; source = Some source; reading = how }

  pub add_other : (b : Text) (rows : List Row) → bytes_eq id b ≡ false → all_of b (with_values id how source values rows) ≡ all_of b rows
  unfolding new_row
  add_other b rows other = at_other id b (more_values source values) (new_row ∷ []) rows other (λ r rest e. skipped b _ rest e) (skipped b new_row [] other)

  -- more values come after those that are there
  pub add_same : (rows : List Row) → all_of id (with_values id how source values rows) ≡ Some (unwrap_or (all_of id rows) [] ++ values)
  unfolding new_row
  add_same [] = first_row id new_row [] (itself id)
  add_same (r ∷ rs) = go (bytes_eq r.id id) refl (add_same rs)
    where
      go : (here : Bool) → bytes_eq r.id id ≡ here → all_of id (with_values id how source values rs) ≡ Some (unwrap_or (all_of id rs) [] ++ values)
          → all_of id (if here then more_values source values r ++ rs else r ∷ with_values id how source values rs) ≡ Some (unwrap_or (all_of id (r ∷ rs)) [] ++ values)
      go true e more = rw e refl
      go false e more =
          skipped id r (with_values id how source values rs) e ∙ more ∙ ap (λ (o : Option (List Text)). Some (unwrap_or o [] ++ values)) (sym (skipped id r rs e))

without_other : (id b : Text) (rows : List Row) → bytes_eq id b ≡ false → all_of b (without id rows) ≡ all_of b rows
without_other id b rows other = at_other id b (λ r. []) [] rows other (λ r rest e. refl) refl

without_none : (id : Text) (rows : List Row) → all_of id rows ≡ None → all_of id (without id rows) ≡ None
without_none id [] none = refl
without_none id (r ∷ rs) none = go (bytes_eq r.id id) refl (λ e. without_none id rs (sym (skipped id r rs e) ∙ none))
  where
    go : (here : Bool) → bytes_eq r.id id ≡ here → (bytes_eq r.id id ≡ false → all_of id (without id rs) ≡ None) → all_of id (if here then [] ++ rs else r ∷ without id rs) ≡ None
    go true e more = let there = first_row id r rs e in cc
    go false e more = skipped id r (without id rs) e ∙ more e

-- what is there of an option after a use, which is of this one or of another
abbrev pub said_by : (is_this : Bool) → List Text → Option (List Text) → Option (List Text)
said_by true values old = Some (unwrap_or old [] ++ values)
said_by false values old = old

module _ (id name : Text) (how : Reading) (values : List Text) (rows : List Row) where
  -- a use that adds to what is there
  pub add_told : all_of name (with_values id how CommandLine values rows) ≡ said_by (bytes_eq name id) values (all_of name rows)
  add_told = go (bytes_eq name id) refl
    where
      go : (here : Bool) → bytes_eq name id ≡ here → all_of name (with_values id how CommandLine values rows) ≡ said_by here values (all_of name rows)
      go true e = subst (λ (n : Text). all_of n (with_values id how CommandLine values rows) ≡ Some (unwrap_or (all_of n rows) [] ++ values)) (sym (same_id name id e)) (add_same id how CommandLine values rows)
      go false e = add_other id how CommandLine values name rows (other_id name id e)

  -- a use in place of what is there, where there is nothing
  pub set_told : all_of id rows ≡ None → all_of name (with_values id how CommandLine values (without id rows)) ≡ said_by (bytes_eq name id) values (all_of name rows)
  set_told none = go (bytes_eq name id) refl
    where
      go : (here : Bool) → bytes_eq name id ≡ here → all_of name (with_values id how CommandLine values (without id rows)) ≡ said_by here values (all_of name rows)
      go true e =
          subst (λ (n : Text). all_of n (with_values id how CommandLine values (without id rows)) ≡ Some (unwrap_or (all_of n rows) [] ++ values)) (sym (same_id name id e))
          (add_same id how CommandLine values (without id rows) ∙ ap (λ (o : Option (List Text)). Some (unwrap_or o [] ++ values)) (without_none id rows none ∙ sym none))
      go false e = add_other id how CommandLine values name (without id rows) (other_id name id e) ∙ without_other id name rows (other_id name id e)

-- ---- the first value, and whether there is one

abbrev pub first_text : Option (List Text) → Option Text
first_text o = option_and_then (λ vs. slice_get vs 0) o

pub first_is : (b : Text) (rows : List Row) → first_of b rows ≡ first_text (all_of b rows)
first_is b rows = go (find (λ r. bytes_eq r.id b) rows)
  where
    go : (o : Option Row) → option_and_then (λ (r : Row). slice_get r.values 0) o ≡ option_and_then (λ vs. slice_get vs 0) (option_map (λ (r : Row). r.values) o)
    go None = refl
    go (Some r) = refl

pub is_there : (b : Text) (rows : List Row) → has_row b rows ≡ is_some (all_of b rows)
is_there b [] = refl
is_there b (r ∷ rs) = go (bytes_eq r.id b) (is_there b rs)
  where
    go : (here : Bool) → has_row b rs ≡ is_some (all_of b rs) → (here || has_row b rs) ≡ is_some (option_map (λ (q : Row). q.values) (if here then Some r else find (λ q. bytes_eq q.id b) rs))
    go true e = refl
    go false e = e

pub not_there : (b : Text) (rows : List Row) → all_of b rows ≡ None → has_row b rows ≡ false
not_there b rows none = is_there b rows ∙ ap is_some none

none_there : (b : Text) (rows : List Row) → has_row b rows ≡ false → all_of b rows ≡ None
none_there b rows h = go (all_of b rows) (sym (is_there b rows) ∙ h)
  where
    go : (o : Option (List Text)) → is_some o ≡ false → o ≡ None
    go None e = refl
    go (Some vs) e = absurd (true≢false e)

-- ---- defaults

-- an option has no default, or is another one
abbrev pub Keeps : Text → Rule → Type 0
Keeps b a = (bytes_eq a.id b ≡ false) ⊎ (a.defaults ≡ [])

default_keeps : (b : Text) (rows : List Row) (a : Rule) → Keeps b a → all_of b (with_default rows a) ≡ all_of b rows
default_keeps b rows a keeps = go (has_row a.id rows) a.defaults keeps
  where
    go : (here : Bool) (ds : List Text) → (bytes_eq a.id b ≡ false) ⊎ (ds ≡ []) → all_of b (if here then rows else default_rows a.id (reading_by a) ds rows) ≡ all_of b rows
    go true ds k = refl
    go false [] k = refl
    go false (d ∷ ds) (inl other) = add_other a.id (reading_by a) DefaultValue (d ∷ ds) b rows other
    go false (d ∷ ds) (inr e) = cc

pub defaults_keep : (b : Text) (rules : List Rule) (rows : List Row) → AllByRecursion (Keeps b) rules → all_of b (fold with_default rows rules) ≡ all_of b rows
defaults_keep b [] rows keep = refl
defaults_keep b (a ∷ rest) rows keep = defaults_keep b rest (with_default rows a) keep.1 ∙ default_keeps b rows a keep.0

-- whether the first value is `true`
abbrev pub is_on : Option (List Text) → Bool
is_on o = is_given (first_text o)

-- an option has no default, or that of a flag
abbrev pub IsOff : Rule → Type 0
IsOff a = (a.defaults ≡ []) ⊎ (a.defaults ≡ codes "false" ∷ [])

default_off : (b : Text) (rows : List Row) (a : Rule) → IsOff a → is_on (all_of b (with_default rows a)) ≡ is_on (all_of b rows)
default_off b rows a off = go (has_row a.id rows) refl a.defaults off
  where
    put : (here : Bool) → bytes_eq a.id b ≡ here → has_row a.id rows ≡ false → is_on (all_of b (with_values a.id (reading_by a) DefaultValue (codes "false" ∷ []) rows)) ≡ is_on (all_of b rows)
    put true e none =
        subst (λ (n : Text). is_on (all_of n (with_values a.id (reading_by a) DefaultValue (codes "false" ∷ []) rows)) ≡ is_on (all_of n rows)) (same_id a.id b e)
        (ap is_on (add_same a.id (reading_by a) DefaultValue (codes "false" ∷ []) rows ∙ ap (λ (o : Option (List Text)). Some (unwrap_or o [] ++ codes "false" ∷ [])) (none_there a.id rows none))
        ∙ sym (ap is_on (none_there a.id rows none)))
    put false e none = ap is_on (add_other a.id (reading_by a) DefaultValue (codes "false" ∷ []) b rows e)

    go : (here : Bool) → has_row a.id rows ≡ here → (ds : List Text) → (ds ≡ []) ⊎ (ds ≡ codes "false" ∷ [])
        → is_on (all_of b (if here then rows else default_rows a.id (reading_by a) ds rows)) ≡ is_on (all_of b rows)
    go true e ds k = refl
    go false e ds (inl none) = ap (λ (xs : List Text). is_on (all_of b (default_rows a.id (reading_by a) xs rows))) none
    go false e ds (inr one) = ap (λ (xs : List Text). is_on (all_of b (default_rows a.id (reading_by a) xs rows))) one ∙ put (bytes_eq a.id b) refl e

pub defaults_off : (b : Text) (rules : List Rule) (rows : List Row) → AllByRecursion IsOff rules → is_on (all_of b (fold with_default rows rules)) ≡ is_on (all_of b rows)
defaults_off b [] rows off = refl
defaults_off b (a ∷ rest) rows off = defaults_off b rest (with_default rows a) off.1 ∙ default_off b rows a off.0

-- the default, if there is one, is none that the option refuses
abbrev pub IsFit : Rule → Type 0
IsFit a = (if is_empty a.defaults then [] else given_default_fault a a.defaults) ≡ []

either : (here empty : Bool) (kinds : Kinds) → (if empty then [] else kinds) ≡ [] → (if here || empty then [] else kinds) ≡ []
either true empty kinds fit = refl
either false empty kinds fit = fit

pub defaults_fit : (rules : List Rule) (rows : List Row) → AllByRecursion IsFit rules → defaults_fault rows rules ≡ []
unfolding defaults_fault
defaults_fit [] rows fit = refl
defaults_fit (a ∷ rest) rows fit = rw (either (has_row a.id rows) (is_empty a.defaults) (given_default_fault a a.defaults) fit.0) (defaults_fit rest (with_default rows a) fit.1)
