-- A list of a command's own options is read, where each of them is.
use Rattle.std.proofs.Common.{◌≡◌, ◌∙◌, ◌&&◌, ◌||◌, Bool, true, false, not, List, [], ◌∷◌, refl, ap, sym, subst, fold, None}
use Rattle.std.proofs.lemmas.Bool.{false_from_ne_true, false≢true, true≢false}
use Rattle.std.proofs.lemmas.List.Sums.{fold-append}
use Rattle.std.proofs.lemmas.Slice.Eq.{bytes_eq-Decides}
use Rattle.std.specs.Prelude.{codes, filter, if◌then◌else◌}
use Rattle.std.specs.Option.{unwrap_or}
use Rattle.std.specs.List.{AllByRecursion, list_any}
use Rattle.std.specs.Str.{bytes_eq}
use Rattle.clap.specs.Words.{Kinds, Row, Rule, Text, all_of, new_rule}
use Rattle.clap.specs.Kinds.{or_else}
use Rattle.clap.specs.Walk.{Held, Walk, arg_by_id, has_row, nothing_held, settled, used, walk_from, walked}
use Rattle.clap.specs.Simple.{Shape}
use Rattle.clap.specs.Faults.{settle_fault, walk_fault}
use Rattle.clap.specs.declared.error.kind.ErrorKind.TheVariants.{ArgumentConflict}
use Rattle.ck_command_line.specs.Asked.{WrittenWord, features, allow_unrun, allow_unrun_tagged, no_retries, no_skips, no_stepless, no_undefined, strict, as_json, pending_passes, attempts_from, allow_redeclared, run}
use Rattle.ck_command_line.specs.Asked.{IsPlain, all_words, are_distinct, has_name, may_come_again, name_of, names_after, words_of}
use Rattle.ck_command_line.proofs.Between.{IsBetween, goes_on, walk_fault-append}
use Rattle.ck_command_line.proofs.Rows.{not_there, said_by}
use Rattle.ck_command_line.proofs.Said.{said_all, text_of}

-- an option of one of these names
abbrev pub is_own : List Text → WrittenWord → Bool
is_own names option = list_any (λ name. has_name name option) names

-- the values that the words of an option give
abbrev pub values_for : WrittenWord → List Text
values_for (features is_one_word path) = path ∷ []
values_for (allow_unrun_tagged is_one_word tag) = tag ∷ []
values_for (attempts_from is_one_word number) = number ∷ []
values_for (run word) = word ∷ []
values_for _ = []

-- the option is there for the first time, or may come again
abbrev pub IsNew : WrittenWord → List Row → Type 0
IsNew option rows = may_come_again option ≡ false → all_of (name_of option) rows ≡ None

-- ---- the faults of an option that isn't there yet

pub conflict : (there : Bool) → there ≡ false → or_else (if there then ArgumentConflict ∷ [] else []) [] ≡ []
conflict there e = rw e refl

pub once : (settle : Kinds) (there : Bool) → settle ≡ [] → there ≡ false → or_else (or_else (or_else settle (or_else (if there then ArgumentConflict ∷ [] else []) [])) []) [] ≡ []
once settle there n e = rw (n, e) refl

pub settled_alone : (settle : Kinds) → settle ≡ [] → or_else settle [] ≡ []
settled_alone settle n = rw n refl

pub waiting : (settle : Kinds) → settle ≡ [] → or_else (or_else settle []) [] ≡ []
waiting settle n = rw n refl

-- ---- names that are left

-- the names that may still come are new
abbrev pub AreNew : List Text → List Row → Type 0
AreNew names rows = (option : WrittenWord) → is_own names option ≡ true → IsNew option rows

pub none_held : (names : List Text) (rows : List Row) → rows ≡ [] → AreNew names rows
none_held names rows e option own first = ap (all_of (name_of option)) e

-- a name that is left was there, and is not that of the option that went
in_filter : (p q : Text → Bool) (names : List Text) → list_any p (filter q names) ≡ true → list_any p names ≡ true
in_filter p q [] h = h
in_filter p q (name ∷ names) h = go (p name) (q name) refl (in_filter p q names) h
  where
    go : (a b : Bool) → p name ≡ a → (list_any p (filter q names) ≡ true → list_any p names ≡ true) → list_any p (if b then name ∷ filter q names else filter q names) ≡ true → (a || list_any p names) ≡ true
    go true b is more e = refl
    go false true is more e = more (subst (λ (x : Bool). (x || list_any p (filter q names)) ≡ true) is e)
    go false false is more e = more e

none_left : (p : Text → Bool) (names : List Text) → list_any p (filter (λ name. not (p name)) names) ≡ false
none_left p [] = refl
none_left p (name ∷ names) = go (p name) refl (none_left p names)
  where
    go : (b : Bool) → p name ≡ b → list_any p (filter (λ x. not (p x)) names) ≡ false → list_any p (if not b then name ∷ filter (λ x. not (p x)) names else filter (λ x. not (p x)) names) ≡ false
    go true e more = more
    go false e more = rw e more

other_name : (gone option : WrittenWord) (names : List Text) → list_any (λ name. has_name name option) (filter (λ name. not (has_name name gone)) names) ≡ true → has_name (name_of option) gone ≡ false
other_name gone option names h =
    false_from_ne_true (has_name (name_of option) gone) (λ same.
    let is : name_of option ≡ name_of gone = (bytes_eq-Decides (name_of option) (name_of gone)).0 same in
    false≢true (sym (none_left (λ name. bytes_eq name (name_of gone)) names) ∙ subst (λ (n : Text). list_any (λ name. bytes_eq name n) (filter (λ name. not (has_name name gone)) names) ≡ true) is h))

-- an option that may not come again has another name than one that may
not_again : (option : WrittenWord) → may_come_again option ≡ false
    → (bytes_eq (name_of option) (codes "features") ≡ false) × (bytes_eq (name_of option) (codes "allow-unrun-tagged") ≡ false) × (bytes_eq (name_of option) (codes "run") ≡ false)
not_again (features w p) h = absurd (true≢false h)
not_again allow_unrun h = (refl, refl, refl)
not_again (allow_unrun_tagged w t) h = absurd (true≢false h)
not_again no_retries h = (refl, refl, refl)
not_again no_skips h = (refl, refl, refl)
not_again no_stepless h = (refl, refl, refl)
not_again no_undefined h = (refl, refl, refl)
not_again strict h = (refl, refl, refl)
not_again as_json h = (refl, refl, refl)
not_again pending_passes h = (refl, refl, refl)
not_again (attempts_from w n) h = (refl, refl, refl)
not_again allow_redeclared h = (refl, refl, refl)
not_again (run w) h = absurd (true≢false h)

-- the names are some of these
abbrev IsWithin : List Text → List Text → Type 0
IsWithin names own = (option : WrittenWord) → is_own names option ≡ true → is_own own option ≡ true

within_after : (gone : WrittenWord) (names own : List Text) → IsWithin names own → IsWithin (names_after gone names) own
within_after gone names own within option h = within option (go (may_come_again gone) h)
  where
    go : (b : Bool) → is_own (if b then names else filter (λ name. not (has_name name gone)) names) option ≡ true → is_own names option ≡ true
    go true k = k
    go false k = in_filter (λ name. has_name name option) (λ name. not (has_name name gone)) names k

and_left : (a b : Bool) → (a && b) ≡ true → a ≡ true
and_left true b h = refl
and_left false b h = h

and_right : (a b : Bool) → (a && b) ≡ true → b ≡ true
and_right true b h = h
and_right false b h = absurd (false≢true h)

-- each of the options is one of the command's own
own_each : (own names : List Text) (options : List WrittenWord) → IsWithin names own → are_distinct names options ≡ true → AllByRecursion (λ option. is_own own option ≡ true) options
own_each own names [] within d = tt
own_each own names (option ∷ options) within d = (
  within option (and_left (is_own names option) (are_distinct (names_after option names) options) d),
  own_each own (names_after option names) options (within_after option names own within) (and_right (is_own names option) (are_distinct (names_after option names) options) d),
)

pub all_own : (own : List Text) (options : List WrittenWord) → are_distinct own options ≡ true → AllByRecursion (λ option. is_own own option ≡ true) options
all_own own options d = own_each own own options (λ option h. h) d

module _ (s : Shape) where
  -- the rule of an option, or of the runs
  abbrev pub rule_for : WrittenWord → Rule
  rule_for option = unwrap_or (arg_by_id s.rules (name_of option)) (new_rule [])

  -- the rows so far, with the use of the option that is pending
  abbrev pub rows_now : Held → List Row
  rows_now h = (settled s.rules h).rows

  abbrev pub settling : Held → Kinds
  settling h = settle_fault s.rules s.args_override_self h

  -- whether the option is there
  abbrev pub again : Text → List Row → Bool
  again name rows = has_row name rows && not s.args_override_self

  pub is_new : (name : Text) (rows : List Row) → all_of name rows ≡ None → again name rows ≡ false
  is_new name rows none = ap (λ b. b && not s.args_override_self) (not_there name rows none)

  -- what one option does: it is used, without a fault
  abbrev pub Used : WrittenWord → Held → Type 0
  Used option h = IsBetween (fold (walked s.rules []) (walk_from h) (words_of option))
      × (rows_now (fold (walked s.rules []) (walk_from h) (words_of option)).held ≡ used (rule_for option) (values_for option) (rows_now h))
      × (walk_fault s [] (walk_from h) (words_of option) ≡ []) × (settling (fold (walked s.rules []) (walk_from h) (words_of option)).held ≡ [])

  -- what the rows hold of a name after it
  abbrev pub Told : WrittenWord → Type 0
  Told option = (name : Text) (rows : List Row) → IsNew option rows
      → all_of name (used (rule_for option) (values_for option) rows) ≡ said_by (has_name name option) (text_of option ∷ []) (all_of name rows)

  -- each of the options with these names is read
  pub record ReadsEach (own : List Text) : Type 0 where
    pub uses : (option : WrittenWord) → is_own own option ≡ true → IsPlain option → (h : Held) → settling h ≡ [] → IsNew option (rows_now h) → Used option h
    pub told : (option : WrittenWord) → is_own own option ≡ true → Told option

  -- what a list of options does: each is used, without a fault
  pub record AreUsed (options : List WrittenWord) (h : Held) : Type 0 where
    pub rows : (name : Text) → all_of name (rows_now (fold (walked s.rules []) (walk_from h) (all_words options)).held) ≡ said_all name options (all_of name (rows_now h))
    pub no_fault : walk_fault s [] (walk_from h) (all_words options) ≡ []
    pub settles : settling (fold (walked s.rules []) (walk_from h) (all_words options)).held ≡ []

  -- what one option leaves of another name
  untouched : (option : WrittenWord) → Told option → (name : Text) (rows : List Row) → IsNew option rows → has_name name option ≡ false → all_of name rows ≡ None → all_of name (used (rule_for option) (values_for option) rows) ≡ None
  untouched option told name rows new other none =
      told name rows new ∙ ap (λ b. said_by b (text_of option ∷ []) (all_of name rows)) other ∙ none

  by_filter : (gone : WrittenWord) → Told gone → (names : List Text) (rows : List Row) → IsNew gone rows → AreNew names rows → AreNew (filter (λ name. not (has_name name gone)) names) (used (rule_for gone) (values_for gone) rows)
  by_filter gone told names rows new all option h first =
      untouched gone told (name_of option) rows new (other_name gone option names h) (all option (in_filter (λ name. has_name name option) (λ name. not (has_name name gone)) names h) first)

  left_new : (option : WrittenWord) → Told option → (names : List Text) (rows : List Row) → IsNew option rows → AreNew names rows → AreNew (names_after option names) (used (rule_for option) (values_for option) rows)
  left_new (features w p) told names rows new all = λ option h first. untouched (features w p) told (name_of option) rows new (not_again option first).0 (all option h first)
  left_new allow_unrun told names rows new all = by_filter allow_unrun told names rows new all
  left_new (allow_unrun_tagged w t) told names rows new all = λ option h first. untouched (allow_unrun_tagged w t) told (name_of option) rows new (not_again option first).1 (all option h first)
  left_new no_retries told names rows new all = by_filter no_retries told names rows new all
  left_new no_skips told names rows new all = by_filter no_skips told names rows new all
  left_new no_stepless told names rows new all = by_filter no_stepless told names rows new all
  left_new no_undefined told names rows new all = by_filter no_undefined told names rows new all
  left_new strict told names rows new all = by_filter strict told names rows new all
  left_new as_json told names rows new all = by_filter as_json told names rows new all
  left_new pending_passes told names rows new all = by_filter pending_passes told names rows new all
  left_new (attempts_from w n) told names rows new all = by_filter (attempts_from w n) told names rows new all
  left_new allow_redeclared told names rows new all = by_filter allow_redeclared told names rows new all
  left_new (run w) told names rows new all = λ option h first. untouched (run w) told (name_of option) rows new (not_again option first).2 (all option h first)

  use_each : (own : List Text) → ReadsEach own → (options : List WrittenWord) → AllByRecursion IsPlain options → (names : List Text) → IsWithin names own → are_distinct names options ≡ true → (h : Held) → settling h ≡ [] → AreNew names (rows_now h) → AreUsed options h
  unfolding walk_fault
  use_each own reads [] k names within d h n all = record { rows = λ name. refl; no_fault = refl; settles = n }
  use_each own reads (option ∷ options) k names within d h n all =
      let here_own = and_left (is_own names option) (are_distinct (names_after option names) options) d in
      let rest = and_right (is_own names option) (are_distinct (names_after option names) options) d in
      let w = fold (walked s.rules []) (walk_from h) (words_of option) in
      let told = reads.told option (within option here_own) in
      let one = reads.uses option (within option here_own) k.0 h n (all option here_own) in
      let on = goes_on s w one.0 (all_words options) in
      let new = subst (AreNew (names_after option names)) (sym one.1) (left_new option told names (rows_now h) (all option here_own) all) in
      let more = use_each own reads options k.1 (names_after option names) (within_after option names own within) rest w.held one.3 new in
      let end : (fold (walked s.rules []) (walk_from h) (all_words (option ∷ options))).held ≡ (fold (walked s.rules []) (walk_from w.held) (all_words options)).held =
      ap (λ (v : Walk). v.held) (fold-append (walked s.rules []) (walk_from h) (words_of option) (all_words options)) ∙ on.0 in
      record {
        rows = λ name.
            ap (λ (held : Held). all_of name (rows_now held)) end ∙ more.rows name
            ∙ ap (said_all name options) (ap (all_of name) one.1 ∙ told name (rows_now h) (all option here_own));
        no_fault =
            walk_fault-append s [] (walk_from h) (words_of option) (all_words options)
            ∙ ap (λ (kinds : Kinds). or_else kinds (walk_fault s [] w (all_words options))) one.2
            ∙ on.1 ∙ more.no_fault;
        settles = ap settling end ∙ more.settles;
      }

  -- any list of them, from the first word on
  pub use_all : (own : List Text) → ReadsEach own → (options : List WrittenWord) → are_distinct own options ≡ true → AllByRecursion IsPlain options → settling nothing_held ≡ [] → rows_now nothing_held ≡ [] → AreUsed options nothing_held
  use_all own reads options d k n none = use_each own reads options k own (λ option h. h) d nothing_held n (none_held own (rows_now nothing_held) none)

pub no_faults_found : (a b c d : Kinds) → a ≡ [] → b ≡ [] → c ≡ [] → d ≡ [] → or_else (or_else a (or_else [] (or_else b (or_else c d)))) [] ≡ []
no_faults_found a b c d e f g i = rw (e, f, g, i) refl
