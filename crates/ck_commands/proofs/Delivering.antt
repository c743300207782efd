-- What a report leaves at a sink.
use Rattle.std.proofs.Common.{◌≡◌, ◌∙◌, ◌<◌, ◌≤◌, ◌++◌, [], ℕ, List, inl, inr, refl, sym, ap, subst, append-nil, length, arith}
use Rattle.std.specs.Io.KnownBytes.{Keeps}
use Rattle.cm_envelope.specs.Device.{Output, Writes, count_up, greatest_count}
use Rattle.cm_envelope.specs.Writing.{WritesFront}
use Rattle.cm_envelope.proofs.Writes.{writes_kept, writes_then}
use Rattle.ck_commands.specs.Output.{Breaks, Delivers, NoneFailed, Prints, Report, code_of, write_failed_text}
use Rattle.ck_commands.specs.declared.report.ExitStatus.TheVariants.{Trouble}

-- a count that rose is another, unless it is the greatest
rose : (old new : ℕ) → old < greatest_count → count_up old ≤ new → new ≡ old → ⊥
rose old new few more same = omega (arith, few, more, same)

-- a report that was written whole and flushed
pub delivered : (report : Report) (code : ℕ) (a b c : Output) → code ≡ code_of report.status → Writes a b report.text → b.failed_calls ≡ a.failed_calls
    → (c.taken ≡ b.taken) × (c.flushed ≡ length b.taken) → Keeps b.shown c.shown → c.failed_calls ≡ b.failed_calls → Delivers report code a c
delivered report code a b c status wrote none passed kept still =
    let prints : Prints report code a c = record {
      status = status;
      written = writes_kept a b c report.text wrote passed.0 kept;
      flushed = passed.1 ∙ ap length (sym passed.0);
    } in
    record { one = inl prints; printed = λ all. prints; broken = λ other. absurd (other (still ∙ none)) }

-- one of which a call failed
broke : (report : Report) (code : ℕ) (a c : Output) → Breaks report.text code a c → (NoneFailed a.failed_calls c.failed_calls → ⊥) → Delivers report code a c
broke report code a c breaks failed = record { one = inr breaks; printed = λ none. absurd (failed none); broken = λ other. breaks }

-- one whose flush failed
pub not_flushed : (report : Report) (code : ℕ) (a b c : Output) → code ≡ code_of Trouble → Writes a b report.text → b.failed_calls ≡ a.failed_calls
    → (c.taken ≡ b.taken) × (c.flushed ≡ b.flushed) → Keeps b.shown c.shown → c.failed_calls ≡ count_up b.failed_calls → Delivers report code a c
not_flushed report code a b c status wrote none same kept up =
    broke report code a c
    (record {
      status = status;
      front = report.text;
      rest = [];
      of_text = sym (append-nil report.text);
      told = [];
      untold = write_failed_text;
      of_trouble = refl;
      written = subst (Writes a c) (sym (append-nil report.text)) (writes_kept a b c report.text wrote same.0 kept);
    })
    (λ all. rose a.failed_calls c.failed_calls all.0 (omega (arith, up ∙ ap count_up none)) all.1)

-- one that wasn't written whole
pub not_written : (report : Report) (code : ℕ) (a b c : Output) (told untold : List ℕ) → code ≡ code_of Trouble → WritesFront a b report.text → b.failed_calls ≡ count_up a.failed_calls
    → write_failed_text ≡ told ++ untold → Writes b c told → (b.failed_calls ≤ greatest_count → b.failed_calls ≤ c.failed_calls) → Delivers report code a c
not_written report code a b c told untold status front up is wrote more =
    broke report code a c
    (record {
      status = status;
      front = front.0;
      rest = front.1;
      of_text = front.2;
      told = told;
      untold = untold;
      of_trouble = is;
      written = writes_then a b c front.0 told front.4 wrote;
    })
    (λ all. rose a.failed_calls c.failed_calls all.0 (at_least a.failed_calls b.failed_calls c.failed_calls all.0 up more) all.1)
  where
    at_least : (old mid new : ℕ) → old < greatest_count → mid ≡ count_up old → (mid ≤ greatest_count → mid ≤ new) → count_up old ≤ new
    at_least old mid new few is more = let far = more (omega (arith, few, is)) in omega (arith, is, far)
