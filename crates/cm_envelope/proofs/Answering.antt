-- What a call answers and leaves.
use Rattle.std.proofs.Common.{◌≡◌, ℕ, ◌+◌, ◌-◌, ◌≤◌, Bool, true, false, not, List, [], ◌++◌, slice_range, Some, None, Ok, Err, refl, subst, arith}
use Rattle.std.specs.Prelude.{IfSome, IfNone}
use Rattle.cm_envelope.specs.Device.{Hears, Input, OfInput}
use Rattle.cm_envelope.specs.Feeds.{FeedState, NextLine, AnswersFirst, OnLine, IsLineWithin, EndsWithSource, Leaves, last_answer, feed_left}
use Rattle.cm_envelope.specs.Held.{Finds}
use Rattle.cm_envelope.specs.Lines.{size}
use Rattle.cm_envelope.specs.declared.feed.Trouble.{Trouble}
use Rattle.cm_envelope.specs.declared.feed.Over.TheVariants.{Ended, Failed}
use Rattle.cm_envelope.proofs.Giving.{state, first_of_left, gives-end}
use Rattle.cm_envelope.proofs.Sources.{hears_nothing, of_any}
use Rattle.cm_envelope.proofs.Taking.{Takes, takes_first, gives-refusal, refusal_first}

-- what the clauses of a call ask that read nothing of the source itself
pub record Answer (old new : FeedState) (before after : Input) (answer : NextLine) : Type 0 where
  pub repeats : IfSome old.over (λ over. answer ≡ last_answer over)
  pub first : IfNone old.over (OfInput before after (λ bytes. AnswersFirst (feed_left old bytes) answer))
  pub line : OnLine answer (IsLineWithin old.line_limit)
  pub end : EndsWithSource old before → answer ≡ Ok None → (after.is_over ≡ true)
  pub leaves : Leaves old new before after answer

pub line_answer : {ll sl g n after_n : ℕ} {is_ended : Bool} {bs : List ℕ} {start end : ℕ} {held read : List ℕ} (before after : Input)
    → Takes ll sl g n after_n is_ended bs start end held read → Hears before after read → (is_ended ≡ true → (after.is_over ≡ true))
    → size (record { bytes = slice_range bs start (start + n); has_end = not is_ended }) ≡ after_n
    → Answer (state ll sl held g false None) (state ll sl (slice_range bs (start + after_n) end) (g + after_n) is_ended None) before after (Ok (Some (slice_range bs start (start + n))))
line_answer {ll} {sl} {g} {n} {after_n} {is_ended} {bs} {start} {end} {held} {read} before after t k at_end counted =
    let len = t.len in
    let within = t.within in
    let some = t.some in
    record {
      repeats = tt;
      first = takes_first before after t k at_end;
      line = (t.clean, omega arith);
      end = λ was told. cc;
      leaves = record {
        line_limit = refl;
        stream_limit = refl;
        over = refl;
        ended = λ told. cc;
        source = λ was now. at_end now;
        read = read;
        heard = k;
        past = λ was. cc;
        line = λ _. record { clean = t.clean; no_trouble = t.no_trouble; given = rw counted refl; some = omega arith; fits = t.fits; ahead = t.ahead };
        gives = λ _ rest may. t.next rest (may refl);
      };
    }

pub refusal_answer : (ll sl g : ℕ) (t : Trouble) (held read h : List ℕ) (before after : Input) → g ≤ sl
    → Hears before after read → h ≡ held ++ read → Finds ll (sl - g) h after.is_over (Err t)
    → Answer (state ll sl held g false None) (state ll sl h g false (Some (Failed t))) before after (Err t)
refusal_answer ll sl g t held read h before after fits k is f =
    record {
      repeats = tt;
      first = refusal_first ll sl g t held read h (state ll sl held g false None) before after fits k is f refl;
      line = tt;
      end = λ was told. cc;
      leaves = record {
        line_limit = refl;
        stream_limit = refl;
        over = refl;
        ended = λ told. cc;
        source = λ was now. cc;
        read = read;
        heard = k;
        past = λ was. cc;
        line = λ _. tt;
        gives = λ _ rest may. gives-refusal ll sl g t held read h false (Some (Failed t)) after.is_over rest fits is f;
      };
    }

-- the end is read, and nothing was held
pub nothing_answer : (ll sl g : ℕ) (held read h : List ℕ) (before after : Input) → Hears before after read → (after.is_over ≡ true) → held ++ read ≡ []
    → Answer (state ll sl held g false None) (state ll sl h g true (Some Ended)) before after (Ok None)
nothing_answer ll sl g held read h before after k at_end none =
    let new = state ll sl h g true (Some Ended) in
    record {
      repeats = tt;
      first = first_of_left (state ll sl held g false None) new before after read (Ok None) k (λ was now. at_end) (λ rest may. gives-end ll sl g held read new rest (may refl refl) none);
      line = tt;
      end = λ was told. at_end;
      leaves = record {
        line_limit = refl;
        stream_limit = refl;
        over = refl;
        ended = λ told. refl;
        source = λ was now. at_end;
        read = read;
        heard = k;
        past = λ was. cc;
        line = λ _. tt;
        gives = λ _ rest may. gives-end ll sl g held read new rest (may refl refl) none;
      };
    }

-- the end was read before
pub ended_answer : (ll sl g : ℕ) (input : Input) → Answer (state ll sl [] g true None) (state ll sl [] g true (Some Ended)) input input (Ok None)
ended_answer ll sl g input =
    record {
      repeats = tt;
      first = of_any {P = λ xs. AnswersFirst (feed_left (state ll sl [] g true None) xs) (Ok None)} input (λ xs. refl);
      line = tt;
      end = λ was told. was refl;
      leaves = record {
        line_limit = refl;
        stream_limit = refl;
        over = refl;
        ended = λ told. refl;
        source = λ was now. was refl;
        read = [];
        heard = hears_nothing input;
        past = λ was. (refl, refl);
        line = λ _. tt;
        gives = λ _ rest may. refl;
      };
    }

-- what was answered for good
pub same_end : (ll sl g : ℕ) (held : List ℕ) (input : Input) → Answer (state ll sl held g true (Some Ended)) (state ll sl held g true (Some Ended)) input input (Ok None)
same_end ll sl g held input =
    record {
      repeats = refl;
      first = tt;
      line = tt;
      end = λ was told. was refl;
      leaves = record {
        line_limit = refl;
        stream_limit = refl;
        over = refl;
        ended = λ told. refl;
        source = λ was. was;
        read = [];
        heard = hears_nothing input;
        past = λ was. (refl, was);
        line = λ none. cc;
        gives = λ none. cc;
      };
    }

pub same_trouble : (ll sl g : ℕ) (held : List ℕ) (is_ended : Bool) (t : Trouble) (input : Input)
    → Answer (state ll sl held g is_ended (Some (Failed t))) (state ll sl held g is_ended (Some (Failed t))) input input (Err t)
same_trouble ll sl g held is_ended t input =
    record {
      repeats = refl;
      first = tt;
      line = tt;
      end = λ was told. cc;
      leaves = record {
        line_limit = refl;
        stream_limit = refl;
        over = refl;
        ended = λ told. cc;
        source = λ was. was;
        read = [];
        heard = hears_nothing input;
        past = λ was. (refl, was);
        line = λ none. cc;
        gives = λ none. cc;
      };
    }

-- the same of equal values
pub same_answer : {old new old_is new_is : FeedState} {before after : Input} {answer : NextLine}
    → Answer old new before after answer → old ≡ old_is → new ≡ new_is → Answer old_is new_is before after answer
same_answer {old} {new} {old_is} {new_is} {before} {after} {answer} a o n =
    subst (λ (x : FeedState). Answer x new_is before after answer) o (subst (λ (x : FeedState). Answer old x before after answer) n a)

pub same_line : {old new old_is new_is : FeedState} {before after : Input} {line line_is : List ℕ}
    → Answer old new before after (Ok (Some line)) → old ≡ old_is → new ≡ new_is → line ≡ line_is → Answer old_is new_is before after (Ok (Some line_is))
same_line {old} {new} {old_is} {new_is} {before} {after} {line} {line_is} a o n l =
    subst (λ (x : List ℕ). Answer old_is new_is before after (Ok (Some x))) l (same_answer a o n)
