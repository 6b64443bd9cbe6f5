-- The turns of `run`: what was written so far are the first lines of a report whose other lines come of what is left of the input
-- (`Turns`). Assumes nothing.
--     goes_on                       after a turn that goes on
--     ends_full, ends_over, ends_last    the three ways to end: all lines of the report are written
use Rattle.std.proofs.Common.{◌≡◌, ℕ, ◌<◌, ◌≤◌, List, [], ◌∷◌, ◌++◌, take, length, true, false, Bool, Result, Ok, Err, Option}
use Rattle.std.proofs.Common.{None, Some, OnOk, IfSome, refl, sym, ap, subst, ◌∙◌, arith, append_assoc, append-nil}
use Rattle.std.specs.List.{concat}
use Rattle.std.proofs.lemmas.List.Folds.{concat-append}
use Rattle.std.specs.Io.KnownBytes.{Appends, Consumes, IsAtEnd}
use Rattle.std.proofs.KnownBytes.{Appends-trans}
use Rattle.blockfile.specs.inner.Needs.{bench_longest, HeldIn, Held}
use Rattle.volume_report.specs.declared.Tally.{Tally}
use Rattle.volume_report.specs.program.Report.{entry_of, line_of, counted, last_line, is_last, begun, report, most_files}
use Rattle.volume_report.specs.inner.Turns.{Turns, full, over, last, next}
use Rattle.volume_report.proofs.Refilled.{refilled}

-- where the input is known, so is what is left of it, and the lines that come of that complete those that were written
abbrev pub Completes : Option (List ℕ) → Option (List ℕ) → Tally → List (List ℕ) → Type 0
Completes None left t lines = Unit {0}
Completes (Some bytes) left t lines =
    (later : List ℕ) × (left ≡ Some later) × ((rest : List (List ℕ)) → Turns t later rest → Turns begun bytes (lines ++ rest))

pub record Reporting (first left old new : Option (List ℕ)) (t : Tally) : Type 0 where
  pub lines : List (List ℕ)
  pub written : Appends old new (concat lines)
  pub completes : Completes first left t lines

-- what the contract says that was written
abbrev Whole : Option (List ℕ) → Option (List ℕ) → Option (List ℕ) → Type 0
Whole first old new = IfSome first (λ bytes. Appends old new (concat (report bytes)))

one_line : (old new : Option (List ℕ)) (l : List ℕ) → Appends old new l → Appends old new (concat (l ∷ []))
one_line old new l a = subst (Appends old new) (sym (append-nil l)) a

more_lines : (a b c : Option (List ℕ)) (ls ms : List (List ℕ)) → Appends a b (concat ls) → Appends b c (concat ms) → Appends a c (concat (ls ++ ms))
more_lines a b c ls ms p q = subst (Appends a c) (sym (concat-append ls ms)) (Appends-trans a b c (concat ls) (concat ms) p q)

pub of_ok : {X E : Type 0} {P : Type 0} (r : Result X E) (x : X) → r ≡ Ok x → OnOk r P → P
of_ok {P = P} r x e p = subst (λ (s : Result _ _). OnOk s P) e p

on_ok : {X E : Type 0} {P Q : Type 0} (r : Result X E) → (P → Q) → OnOk r P → OnOk r Q
on_ok (Ok x) f p = f p
on_ok (Err x) f p = tt

-- the last lines of the report were written
completed : (first left old new all : Option (List ℕ)) (t : Tally) (w : Reporting first left old new t) (ms : List (List ℕ))
    → Appends new all (concat ms) → ((later : List ℕ) → left ≡ Some later → Turns t later ms) → Whole first old all
completed None left old new all t w ms a turns = tt
completed (Some bytes) left old new all t w ms a turns =
    let (later, e, f) = w.completes in
    subst (λ (ls : List (List ℕ)). Appends old all (concat ls)) (refilled (f ms (turns later e))) (more_lines old new all w.lines ms w.written a)

-- a turn would start, and a million files were there
pub ends_full : {X E : Type 0} (r : Result X E) (first left old new all : Option (List ℕ)) (t : Tally) → Reporting first left old new t
    → most_files ≤ t.files → OnOk r (Appends new all (last_line t)) → OnOk r (Whole first old all)
ends_full r first left old new all t w h =
    on_ok r (λ a. completed first left old new all t w (last_line t ∷ []) (one_line new all _ a) (λ later e. full t later h))

-- what is left after a turn that took what it holds
left_after : (left after : Option (List ℕ)) (held : List ℕ) → Consumes left after held
    → ((later : List ℕ) → after ≡ Some later → Held 5 bench_longest held later)
    → (later : List ℕ) → left ≡ Some later
    → (rest : List ℕ) × (after ≡ Some rest) × (later ≡ held ++ rest) × Held 5 bench_longest held rest
left_after left None held c h later e = absurd (subst (λ (o : Option (List ℕ)). Consumes o None held) e c)
left_after left (Some rest) held c h later e =
    (rest, refl, subst (λ (o : Option (List ℕ)). Consumes o (Some rest) held) e c, h rest refl)

-- what `fetch` says of what it holds
pub holds : (after : Option (List ℕ)) (table : List ℕ) (n : ℕ) (ended : Bool) → HeldIn 5 bench_longest table n ended
    → (ended ≡ true → IsAtEnd after) → (later : List ℕ) → after ≡ Some later → Held 5 bench_longest (take n table) later
holds after table n ended h e later s = h later (λ z. subst IsAtEnd s (e z))

empty : (l : List ℕ) → length l ≡ 0 → l ≡ []
empty [] e = refl
empty (x ∷ l) e = absurd (omega (arith, e))

-- the line of the file that is held
abbrev line : Tally → List ℕ → List ℕ
line t held = line_of (counted t (entry_of held)).files (entry_of held)

next_turn : (t : Tally) (held rest : List ℕ) (ms : List (List ℕ)) → 0 < length held → t.files < most_files
    → Held 5 bench_longest held rest → is_last (entry_of held).number ≡ false → Turns (counted t (entry_of held)) rest ms
    → Turns t (held ++ rest) (line t held ∷ ms)
next_turn t [] rest ms s more h l w = absurd (omega (arith, s))
next_turn t (b ∷ held) rest ms s more h l w = next t b held rest ms more h l w

last_turn : (t : Tally) (held rest : List ℕ) → 0 < length held → t.files < most_files
    → Held 5 bench_longest held rest → is_last (entry_of held).number ≡ true
    → Turns t (held ++ rest) (line t held ∷ last_line (counted t (entry_of held)) ∷ [])
last_turn t [] rest s more h l = absurd (omega (arith, s))
last_turn t (b ∷ held) rest s more h l = last t b held rest more h l

module _ (first left after old new : Option (List ℕ)) (held : List ℕ) (t : Tally) (w : Reporting first left old new t)
    (more : t.files < most_files) (c : Consumes left after held) (h : (later : List ℕ) → after ≡ Some later → Held 5 bench_longest held later)
  where
    -- nothing is held
    pub ends_over : {X E : Type 0} (r : Result X E) (all : Option (List ℕ)) → length held ≡ 0
        → OnOk r (Appends new all (last_line t)) → OnOk r (Whole first old all)
    ends_over r all z = on_ok r (λ a. completed first left old new all t w (last_line t ∷ []) (one_line new all _ a) turns)
      where
        turns : (later : List ℕ) → left ≡ Some later → Turns t later (last_line t ∷ [])
        turns later e =
            let (rest, s, same, b) = left_after left after held c h later e in
            let none = empty held z in
            subst (λ (l : List ℕ). Turns t l (last_line t ∷ [])) (sym (same ∙ ap (λ (l : List ℕ). l ++ rest) none))
            (over t rest more (subst (λ (l : List ℕ). Held 5 bench_longest l rest) none b))

    -- a file is held, its line was written, and the report ends with it
    pub ends_last : {X E : Type 0} (r : Result X E) (then all : Option (List ℕ)) (u : Tally) → 0 < length held
        → u ≡ counted t (entry_of held) → is_last (entry_of held).number ≡ true → Appends new then (line t held)
        → OnOk r (Appends then all (last_line u)) → OnOk r (Whole first old all)
    ends_last r then all u s e l a =
        on_ok r
        (λ b. completed first left old new all t w (line t held ∷ last_line (counted t (entry_of held)) ∷ [])
        (more_lines new then all (line t held ∷ []) (last_line (counted t (entry_of held)) ∷ []) (one_line new then _ a)
        (one_line then all _ (subst (λ (v : Tally). Appends then all (last_line v)) e b))) turns)
      where
        turns : (later : List ℕ) → left ≡ Some later → Turns t later (line t held ∷ last_line (counted t (entry_of held)) ∷ [])
        turns later f =
            let (rest, same-rest, same, b) = left_after left after held c h later f in
            subst (λ (x : List ℕ). Turns t x (line t held ∷ last_line (counted t (entry_of held)) ∷ [])) (sym same)
            (last_turn t held rest s more b l)

    -- or the report goes on
    goes_on_with : (first : Option (List ℕ)) (lines : List (List ℕ)) → Completes first left t lines → 0 < length held
        → is_last (entry_of held).number ≡ false → Completes first after (counted t (entry_of held)) (lines ++ (line t held ∷ []))
    goes_on_with None lines k s l = tt
    goes_on_with (Some bytes) lines k s l =
        let (later, e, f) = k in
        let (rest, same-rest, same, b) = left_after left after held c h later e in (
          rest,
          same-rest,
          λ ms v.
              subst (λ (ls : List (List ℕ)). Turns begun bytes ls) (sym (append_assoc lines (line t held ∷ []) ms))
              (f (line t held ∷ ms)
              (subst (λ (x : List ℕ). Turns t x (line t held ∷ ms)) (sym same) (next_turn t held rest ms s more b l v))),
        )

    pub goes_on : (then : Option (List ℕ)) (u : Tally) → 0 < length held → u ≡ counted t (entry_of held)
        → is_last (entry_of held).number ≡ false → Appends new then (line t held) → Reporting first after old then u
    goes_on then u s e l a =
        subst (λ (v : Tally). Reporting first after old then v) (sym e)
        (record {
          lines = w.lines ++ (line t held ∷ []);
          written = more_lines old new then w.lines (line t held ∷ []) w.written (one_line new then _ a);
          completes = goes_on_with first w.lines w.completes s l;
        })
