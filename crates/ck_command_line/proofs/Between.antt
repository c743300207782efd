-- The walk over the words of a command, between two options.
use Rattle.std.proofs.Common.{◌≡◌, ◌∙◌, ◌&&◌, ℕ, Bool, true, false, List, [], ◌∷◌, ◌++◌, Option, Some, None, refl, ap, subst, sym, fold}
use Rattle.std.proofs.lemmas.Bool.{false≢true}
use Rattle.std.specs.Prelude.{if◌then◌else◌}
use Rattle.std.specs.Str.{bytes_eq}
use Rattle.clap.specs.Words.{Kinds, Rule, Text}
use Rattle.clap.specs.Kinds.{or_else}
use Rattle.clap.specs.Lexer.{long_of, short_of}
use Rattle.clap.specs.Walk.{Held, Names, Outcome, Step, Waiting, Walk, after_flag, after_step, arg_by_index, arg_by_long, bundle, done, idle, long_met, long_or_other, next, option, plain, positional, refused, short_or_plain, subcommand, to_positional, trailing, value, waits, walk_from, walked, word_met}
use Rattle.clap.specs.Simple.{Shape}
use Rattle.clap.specs.Faults.{step_fault, turn_fault, walk_fault, word_fault}

-- no option waits for its value
abbrev pub is_at_rest : Waiting → Bool
is_at_rest idle = true
is_at_rest positional = true
is_at_rest (option id) = false

abbrev pub IsBetween : Walk → Type 0
IsBetween w = (is_at_rest w.waiting ≡ true) × (w.position ≡ 1) × (w.is_trailing ≡ false) × (w.stopped ≡ None)

pub never : (b : Bool) → (b && false) ≡ false
never true = refl
never false = refl

pub or_else-assoc : (a b c : Kinds) → or_else (or_else a b) c ≡ or_else a (or_else b c)
or_else-assoc [] b c = refl
or_else-assoc (k ∷ ks) b c = refl

-- the faults of two lists of words, one after the other
pub walk_fault-append : (s : Shape) (names : Names) (w : Walk) (xs ys : List Text)
    → walk_fault s names w (xs ++ ys) ≡ or_else (walk_fault s names w xs) (walk_fault s names (fold (walked s.rules names) w xs) ys)
unfolding walk_fault
walk_fault-append s names w [] ys = refl
walk_fault-append s names w (x ∷ xs) ys =
    ap (or_else (turn_fault s names w x)) (walk_fault-append s names (walked s.rules names w x) xs ys)
    ∙ sym (or_else-assoc (turn_fault s names w x) (walk_fault s names (walked s.rules names w x) xs) (walk_fault s names (fold (walked s.rules names) (walked s.rules names w x) xs) ys))

-- ---- after a value of a positional a word is what it is after an option

module _ (c : List Rule) (word : Text) where
  flag_same : (h : Held) (o : Outcome) → after_flag c positional word h o ≡ after_flag c idle word h o
  flag_same h done = refl
  flag_same h (waits id) = refl
  flag_same h plain = refl
  flag_same h refused = refl

  short_same : (h : Held) (flags : Option Text) → short_or_plain c positional word flags h ≡ short_or_plain c idle word flags h
  short_same h None = refl
  short_same h (Some flags) = flag_same (bundle c flags h).0 (bundle c flags h).1

  long_same : (h : Held) (long : Option (Text × Option Text)) → long_or_other c positional word long h ≡ long_or_other c idle word long h
  long_same h None = short_same h (short_of word)
  long_same h (Some p) = flag_same (long_met c (arg_by_long c p.0) p.1 h).0 (long_met c (arg_by_long c p.0) p.1 h).1

  met_same : (is_trailing : Bool) (i : ℕ) (h : Held) → word_met c [] is_trailing positional i word h ≡ word_met c [] is_trailing idle i word h
  met_same true i h = refl
  met_same false i h = ap (λ (met : Held × Step). if bytes_eq word (45 ∷ 45 ∷ []) then (h, trailing i) else met) (long_same h (long_of word))

module _ (s : Shape) where
  -- the walks end with the same, and with the same faults
  abbrev SameEnd : Walk → Walk → List Text → Type 0
  SameEnd v w words = ((fold (walked s.rules []) v words).held ≡ (fold (walked s.rules []) w words).held) × (walk_fault s [] v words ≡ walk_fault s [] w words)

  abbrev at : Waiting → Held → ℕ → Bool → Option (Text × List Text) → Walk
  at x h i is_trailing stopped = record { held = h; waiting = x; position = i; is_trailing = is_trailing; stopped = stopped }

  abbrev Same : List Text → Type 0
  Same words = (h : Held) (i : ℕ) (is_trailing : Bool) (stopped : Option (Text × List Text)) → SameEnd (at positional h i is_trailing stopped) (at idle h i is_trailing stopped) words

  -- the same of what is left after one more word
  module _ (word : Text) (words : List Text) (more : Same words) (i : ℕ) (is_trailing : Bool) (old : Held) where
    placed : (h : Held) (found : Option Rule) → SameEnd (to_positional s.rules found word (at positional old i is_trailing None) h) (to_positional s.rules found word (at idle old i is_trailing None) h) words
    placed h None = more h i is_trailing None
    placed h (Some a) = (refl, refl)

    stepped : (h : Held) (step : Step) → SameEnd (after_step s.rules word (at positional old i is_trailing None) h step) (after_step s.rules word (at idle old i is_trailing None) h step) words
    stepped h (next x) = (refl, refl)
    stepped h (trailing position) = more h position true None
    stepped h (subcommand name) = more h i is_trailing (Some (name, []))
    stepped h value = placed h (arg_by_index s.rules i)

  same : (words : List Text) → Same words
  unfolding walked walk_fault
  same [] h i is_trailing stopped = (refl, refl)
  same (word ∷ words) h i is_trailing (Some p) = same words h i is_trailing (Some (p.0, p.1 ++ word ∷ []))
  same (word ∷ words) h i is_trailing None =
      let met = word_met s.rules [] is_trailing idle i word h in
      let is : word_met s.rules [] is_trailing positional i word h ≡ met = met_same s.rules word is_trailing i h in
      let rest = stepped word words (same words) i is_trailing h met.0 met.1 in (
        ap (λ (m : Held × Step). (fold (walked s.rules []) (after_step s.rules word (at positional h i is_trailing None) m.0 m.1) words).held) is ∙ rest.0,
        ap (λ (m : Held × Step). or_else (or_else (word_fault s [] is_trailing idle word h) (step_fault s i m.0 m.1)) (walk_fault s [] (after_step s.rules word (at positional h i is_trailing None) m.0 m.1) words)) is
            ∙ ap (or_else (turn_fault s [] (at idle h i is_trailing None) word)) rest.1,
      )

  at_rest : (x : Waiting) → is_at_rest x ≡ true → (h : Held) (words : List Text) → SameEnd (at x h 1 false None) (walk_from h) words
  at_rest idle e h words = (refl, refl)
  at_rest positional e h words = same words h 1 false None
  at_rest (option id) e h words = absurd (false≢true e)

  -- between two options the walk goes on as it began
  pub goes_on : (w : Walk) → IsBetween w → (words : List Text) → SameEnd w (walk_from w.held) words
  goes_on w b words =
      subst (λ (stopped : Option (Text × List Text)). SameEnd (at w.waiting w.held w.position w.is_trailing stopped) (walk_from w.held) words) (sym b.3)
      (
      subst (λ (is_trailing : Bool). SameEnd (at w.waiting w.held w.position is_trailing None) (walk_from w.held) words) (sym b.2)
      (subst (λ (i : ℕ). SameEnd (at w.waiting w.held i false None) (walk_from w.held) words) (sym b.1) (at_rest w.waiting b.0 w.held words))
      )
