-- A run, one posting after the other.
use Rattle.std.proofs.Common.{◌≡◌, ℕ, suc, ◌+◌, ◌-◌, ◌*◌, ◌<◌, ◌≤◌, List, [], ◌∷◌, ◌++◌, Ok, length, refl, sym, ap, ◌∙◌, subst, arith}
use Rattle.std.proofs.Common.{drop, map, get_or, append-nil, append_assoc}
use Rattle.std.specs.List.{All}
use Rattle.std.specs.declared.option.Option.{Option}
use Rattle.std.proofs.lemmas.List.{drop_all}
use Rattle.mg_dev.specs.Files.{Files, Reads}
use Rattle.mg_defs.specs.Codes.{gamma}
use Rattle.mg_defs.specs.declared.TermPosting.{TermPosting}
use Rattle.mg_defs.specs.Postings.{IsBefore, AllAfter, RisingByTerm, with_count, added, gathered}
use Rattle.mg_defs.specs.RunBits.{before_first, run_posting_bits, postings_bits, run_bits}
use Rattle.mg_defs.proofs.Gathering.{Rising-gathered, added-cases}
use Rattle.mg_bits.specs.BitWriting.{BitWriting}
use Rattle.mg_codes.specs.Writers.{PutsBits}
use Rattle.mg_runs.specs.Bytes.{entry_in, number_in}
use Rattle.mg_runs.specs.Groups.{IsGroup}
use Rattle.mg_runs.specs.OnRun.{IsOnRun}
use Rattle.mg_runs.proofs.PostingGroups.{AllAfter-gathered}
use Rattle.mg_runs.proofs.Puts.{puts_more, puts_ok}

after_start : (entries : List (List ℕ)) → All (λ e. 1 ≤ number_in 4 e) entries → AllAfter before_first (map entry_in entries)
after_start [] all = tt
after_start (e ∷ es) all =
    let d : 1 ≤ number_in 4 e = all 0 e (omega arith) in
    (record { term = omega arith; doc = λ q. omega arith }, after_start es (λ k d h. all (suc k) d (omega arith)))

pub on_run_start : {Store T : Type 0} {x : T} {files : Store → Option Files} {reads : Store → Reads} {faults : Store → ℕ} {start now : Store}
    {v w : BitWriting} {count : ℕ} (entries : List (List ℕ)) → count ≡ length (gathered (map entry_in entries)) → All (λ e. 1 ≤ number_in 4 e) entries →
    PutsBits (gamma count) files reads faults v w start now (Ok x) → w.place ≤ v.place + 66 →
    IsOnRun files reads faults start now v w entries 0 before_first
unfolding run_bits
on_run_start {count = count} entries e docs puts place = record {
  within = omega arith;
  done = gamma count;
  puts = puts_ok puts;
  rest = ap (λ n. gamma n ++ postings_bits before_first (gathered (map entry_in entries))) e;
  before = AllAfter-gathered before_first (map entry_in entries) (after_start entries docs);
  place = omega arith;
}

same_posting : (x y : TermPosting) → x.term ≡ y.term → x.doc ≡ y.doc → x.count ≡ y.count → x ≡ y
same_posting x y p q r =
    let mk : ℕ → ℕ → ℕ → TermPosting = λ t d n. record { term = t; doc = d; count = n } in
    ap (λ t. mk t x.doc x.count) p ∙ ap (λ d. mk y.term d x.count) q ∙ ap (λ n. mk y.term y.doc n) r

-- the posting of a group comes first of what is left
pub group_first : (entries : List (List ℕ)) (from next : ℕ) (p : TermPosting) → IsGroup entries from next →
    p.term ≡ number_in 0 (get_or entries from []) → p.doc ≡ number_in 4 (get_or entries from []) → p.count ≡ next - from →
    gathered (map entry_in (drop from entries)) ≡ p ∷ gathered (map entry_in (drop next entries))
group_first entries from next p group a b d =
    let e : with_count group.head (next - from) ≡ p = same_posting (with_count group.head (next - from)) p (group.term ∙ sym a) (group.doc ∙ sym b) (sym d) in
    group.one ∙ ap (λ x. x ∷ gathered (map entry_in (drop next entries))) e

pub on_run_before : {Store : Type 0} {files : Store → Option Files} {reads : Store → Reads} {faults : Store → ℕ} {start now : Store} {v w : BitWriting}
    {entries : List (List ℕ)} {from : ℕ} {last p : TermPosting} (left : List TermPosting) → IsOnRun files reads faults start now v w entries from last →
    gathered (map entry_in (drop from entries)) ≡ p ∷ left → IsBefore last p
on_run_before {last = last} left run e = (subst (λ xs. AllAfter last xs) e run.before).0

pub on_run_step : {Store T : Type 0} {x : T} {files : Store → Option Files} {reads : Store → Reads} {faults : Store → ℕ} {start now next_now : Store}
    {u v w : BitWriting} {entries : List (List ℕ)} {from next : ℕ} {last p : TermPosting} → IsOnRun files reads faults start now u v entries from last →
    gathered (map entry_in (drop from entries)) ≡ p ∷ gathered (map entry_in (drop next entries)) → from < next → next ≤ length entries →
    PutsBits (run_posting_bits last p) files reads faults v w now next_now (Ok x) → w.place ≤ v.place + 256 →
    IsOnRun files reads faults start next_now u w entries next p
on_run_step {u = u} {v = v} {entries = entries} {from = from} {next = next} {last = last} {p = p} run e after within puts place =
    let left : List TermPosting = gathered (map entry_in (drop next entries)) in
    let old : v.place ≤ u.place + 66 + 256 * from = run.place in
    record {
      within = within;
      done = run.done ++ run_posting_bits last p;
      puts = puts_ok (puts_more run.puts puts);
      rest = append_assoc run.done (run_posting_bits last p) (postings_bits p left) ∙ ap (λ xs. run.done ++ postings_bits last xs) (sym e) ∙ run.rest;
      before = (subst (λ xs. RisingByTerm xs) e (Rising-gathered (map entry_in (drop from entries)))).0;
      place = omega arith;
    }

pub on_run_end : {Store : Type 0} {files : Store → Option Files} {reads : Store → Reads} {faults : Store → ℕ} {start now : Store} {v w : BitWriting}
    {entries : List (List ℕ)} {from : ℕ} {last : TermPosting} → IsOnRun files reads faults start now v w entries from last → length entries ≤ from →
    PutsBits {T = Unit {0}} (run_bits (gathered (map entry_in entries))) files reads faults v w start now (Ok tt)
on_run_end {files = files} {reads = reads} {faults = faults} {start = start} {now = now} {v = v} {w = w} {entries = entries} {from = from} {last = last} run h =
    let none = drop_all from entries h in
    let e : run.done ++ [] ≡ run_bits (gathered (map entry_in entries)) = ap (λ es. run.done ++ postings_bits last (gathered (map entry_in es))) (sym none) ∙ run.rest in
    subst (λ bits. PutsBits {T = Unit {0}} bits files reads faults v w start now (Ok tt)) (sym (append-nil run.done) ∙ e) run.puts

added_some : (x : TermPosting) (xs : List TermPosting) → added x xs ≡ [] → ⊥
added_some x [] e = cc
added_some x (y ∷ xs) e = added-cases x y xs (λ t. t ≡ [] → ⊥) (λ _ q. cc) (λ _ q. cc) (λ _ _ q. cc) e

-- a list that has an entry has a posting
pub some_posting : (entries : List (List ℕ)) → 1 ≤ length entries → 1 ≤ length (gathered (map entry_in entries))
some_posting entries h = some_of (gathered (map entry_in entries)) entries refl h
  where
    some_of : (g : List TermPosting) (entries : List (List ℕ)) → gathered (map entry_in entries) ≡ g → 1 ≤ length entries → 1 ≤ length g
    some_of (x ∷ g) entries e h = omega arith
    some_of [] [] e h = absurd (omega arith)
    some_of [] (x ∷ es) e h = absurd (added_some (entry_in x) (gathered (map entry_in es)) e)
