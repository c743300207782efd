-- A gate over named runs, one run after another.
use Rattle.std.proofs.Common.{◌≡◌, ◌∙◌, ◌∷◌, ◌++◌, [], ℕ, List, Bool, refl, sym, ap, subst, append_assoc, append-nil, ◌+◌, ◌<◌, Bor, get_or, length, map, take}
use Rattle.std.proofs.lemmas.List.{map-append, take_more}
use Rattle.std.specs.Char.{encode_utf8}
use Rattle.std.specs.Prelude.{◌==◌, if◌then◌else◌}
use Rattle.cm_envelope.specs.Device.{Input}
use Rattle.cm_attempt.specs.declared.status.Settings.{Settings}
use Rattle.cm_stream.specs.Release.{Conditions}
use Rattle.files.specs.Openings.{Opening}
use Rattle.ck_commands.specs.Output.{Report}
use Rattle.ck_commands.specs.Runs.{Reading, ReadsRun, ReadsRuns, ReportEach, ReportsRun, lines_after, named_text, named_texts, status_after, status_of_all}
use Rattle.ck_commands.specs.declared.report.ExitStatus.{ExitStatus}
use Rattle.ck_commands.specs.declared.report.ExitStatus.TheVariants as exit

-- ---- lines

-- whether the next character begins a line
abbrev pub begins_next : Bool → List ℕ → Bool
begins_next begins [] = begins
begins_next begins (c ∷ cs) = begins_next (c == 10) cs

pub begins_push : (begins : Bool) (cs : List ℕ) (c : ℕ) → begins_next begins (cs ++ c ∷ []) ≡ (c == 10)
begins_push begins [] c = refl
begins_push begins (x ∷ cs) c = begins_push (x == 10) cs c

pub lines_push : (front : List ℕ) (begins : Bool) (cs : List ℕ) (c : ℕ)
    → lines_after front begins (cs ++ c ∷ []) ≡ lines_after front begins cs ++ ((if begins_next begins cs then front else []) ++ encode_utf8 c)
lines_push front begins [] c = append-nil ((if begins then front else []) ++ encode_utf8 c)
lines_push front begins (x ∷ cs) c =
    let head = (if begins then front else []) ++ encode_utf8 x in
    let tail = (if begins_next (x == 10) cs then front else []) ++ encode_utf8 c in
    ap (λ (l : List ℕ). head ++ l) (lines_push front (x == 10) cs c) ∙ sym (append_assoc head (lines_after front (x == 10) cs) tail)

-- ---- runs

pub reads_push : (names : List (List ℕ)) (noted : List Opening) (i k : Input) (readings : List Reading) (name : List ℕ) (more : List Opening) (j : Input) (reading : Reading)
    → ReadsRuns names noted i k readings → ReadsRun name more k j reading → ReadsRuns (names ++ name ∷ []) (noted ++ more) i j (readings ++ reading ∷ [])
reads_push [] noted i k [] name more j reading runs run =
    (more, [], j, ap (λ (l : List Opening). l ++ more) runs.0 ∙ sym (append-nil more), subst (λ (x : Input). ReadsRun name more x j reading) runs.1 run, (refl, refl))
reads_push [] noted i k (r ∷ rs) name more j reading runs run = absurd runs
reads_push (n ∷ ns) noted i k [] name more j reading runs run = absurd runs
reads_push (n ∷ ns) noted i k (r ∷ rs) name more j reading runs run = (
  runs.0,
  runs.1 ++ more,
  runs.2,
  ap (λ (l : List Opening). l ++ more) runs.3 ∙ append_assoc runs.0 runs.1 more,
  runs.4,
  reads_push ns runs.1 runs.2 k rs name more j reading runs.5 run,
)

pub each_push : (s : Settings) (asked : Conditions) (readings : List Reading) (reports : List Report) (reading : Reading) (report : Report)
    → ReportEach s asked readings reports → ReportsRun s asked reading report → ReportEach s asked (readings ++ reading ∷ []) (reports ++ report ∷ [])
each_push s asked [] [] reading report each one = (one, tt)
each_push s asked [] (r ∷ rs) reading report each one = absurd each
each_push s asked (x ∷ xs) [] reading report each one = absurd each
each_push s asked (x ∷ xs) (r ∷ rs) reading report each one = (each.0, each_push s asked xs rs reading report each.1 one)

-- each run that was read has a report
pub texts_push : (s : Settings) (asked : Conditions) (names : List (List ℕ)) (noted : List Opening) (i k : Input) (readings : List Reading) (reports : List Report) (name : List ℕ) (report : Report)
    → ReadsRuns names noted i k readings → ReportEach s asked readings reports → named_texts (names ++ name ∷ []) (reports ++ report ∷ []) ≡ named_texts names reports ++ named_text name report.text
texts_push s asked [] noted i k [] [] name report runs each = append-nil (named_text name report.text)
texts_push s asked [] noted i k [] (r ∷ rs) name report runs each = absurd each
texts_push s asked [] noted i k (x ∷ xs) reports name report runs each = absurd runs
texts_push s asked (n ∷ ns) noted i k [] reports name report runs each = absurd runs
texts_push s asked (n ∷ ns) noted i k (x ∷ xs) [] name report runs each = absurd each
texts_push s asked (n ∷ ns) noted i k (x ∷ xs) (r ∷ rs) name report runs each =
    ap (λ (l : List ℕ). named_text n r.text ++ l) (texts_push s asked ns runs.1 runs.2 k xs rs name report runs.5 each.1)
    ∙ sym (append_assoc (named_text n r.text) (named_texts ns rs) (named_text name report.text))

-- ---- statuses

after_done : (s : ExitStatus) → status_after s exit.Done ≡ s
after_done exit.Done = refl
after_done exit.Refused = refl
after_done exit.Usage = refl
after_done exit.Trouble = refl
after_done exit.Unsupported = refl
after_done exit.Held = refl

after_assoc : (s t u : ExitStatus) → status_after s (status_after t u) ≡ status_after (status_after s t) u
after_assoc exit.Done t u = refl
after_assoc exit.Refused t u = refl
after_assoc exit.Usage t u = refl
after_assoc exit.Trouble t u = refl
after_assoc exit.Unsupported t u = refl
after_assoc exit.Held t u = refl

pub status_push : (reports : List Report) (r : Report) → status_of_all (reports ++ r ∷ []) ≡ status_after (status_of_all reports) r.status
status_push [] r = after_done r.status
status_push (x ∷ xs) r = ap (status_after x.status) (status_push xs r) ∙ after_assoc x.status (status_of_all xs) r.status

pub both_done : (s t : ExitStatus) → status_after s t ≡ exit.Done → (s ≡ exit.Done) × (t ≡ exit.Done)
both_done exit.Done t e = (refl, e)
both_done exit.Refused t e = cc
both_done exit.Usage t e = cc
both_done exit.Trouble t e = cc
both_done exit.Unsupported t e = cc
both_done exit.Held t e = cc

-- the names of the runs so far, and of the next
pub names_more : (runs : List (Bor (List ℕ))) (n : ℕ) (other : Bor (List ℕ)) → n < length runs → map (λ run. run.now) (take (n + 1) runs) ≡ map (λ run. run.now) (take n runs) ++ (get_or runs n other).now ∷ []
names_more runs n other l =
    ap (map (λ (run : Bor (List ℕ)). run.now)) (take_more runs n other l) ∙ map-append (λ (run : Bor (List ℕ)). run.now) (take n runs) (get_or runs n other ∷ [])
