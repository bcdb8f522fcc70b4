-- A run that lacked memory before it touched a device does what each tool allows.
use Rattle.std.proofs.Common.{◌≡◌, ◌∙◌, ℕ, List, Option, None, Some, sym, ap, subst, inl, inr, arith}
use Rattle.mg_dev.specs.Files.{Files, Reads, bytes_at}
use Rattle.mg_dev.specs.StreamLaws.{grew_nothing}
use Rattle.mg_dev.specs.Streams.{GrewByPrefix}
use Rattle.mg_dev.specs.declared.part.Part.{Part}
use Rattle.mg_dev.specs.declared.part.Part.TheVariants as part
use Rattle.mg_dev.specs.declared.fault.Fault.{Fault}
use Rattle.mg_dev.specs.declared.fault.Fault.TheVariants.{Usage, ReadFault, Memory}
use Rattle.mg_dev.specs.declared.status.Status.{Status}
use Rattle.mg_dev.specs.declared.status.Status.TheVariants.{Done, Stopped}
use Rattle.mg_defs.specs.CodedText.{TextCode}
use Rattle.mg_defs.specs.Generator.{made_collection}
use Rattle.mg_defs.specs.Join.{join}
use Rattle.mg_defs.specs.PhraseSession.{phrase_reply, phrase_session}
use Rattle.mg_defs.specs.Replies.{reply, session}
use Rattle.mg_defs.specs.Summaries.{summary_text, trial_text}
use Rattle.mg_defs.specs.WildSession.{wild_reply, wild_session}
use Rattle.mg_defs.specs.declared.session.Hearing.{Hearing}
use Rattle.mg_defs.specs.declared.session.Hearing.TheVariants.{Commands, Questions}
use Rattle.mg_defs.specs.declared.session.Settings.{Settings}
use Rattle.mg_reply.proofs.CallerLemmas.{none_in_turn}
use Rattle.mg_merge.specs.Merging.{budget_of}
use Rattle.mg_session.specs.Serves as serves
use Rattle.mg_session.specs.PagesAllowed.{PartPages, ReadsAllowed}
use Rattle.mg_session.specs.Parts.{NeverRead, ReadsLexicon}
use Rattle.mg_session.specs.PhraseAnswers.{ReadsPhrases}
use Rattle.mg_session.specs.Served.{Served}
use Rattle.mg_session.specs.Serves.{ReadsWithin}
use Rattle.mg_session.specs.WildAnswers.{NeverReadByPatterns, ReadsPatterns}
use Rattle.mg_session.specs.WildServes.{CountsTooMany}
use Rattle.mg_plain.specs.Stops.{ScanStops}
use Rattle.mg_decode.specs.Outcomes.{DecodeStops}
use Rattle.mg_args.specs.Plain.{Word}
use Rattle.mg_args.specs.Tasks.{Task, build, query, decode, scan, trial, migrate, check, wild, phrase, merge, task_of}
use Rattle.mg_top.specs.Ends.{LacksAtOnce, Prints, SilentOnOutput, ToldWhy}
use Rattle.mg_dev.specs.Runs.{IfStopped, Run, SaysNothing, KeepsFiles, Stops, StoreFailed, InputFailed, OutputFailed}
use Rattle.mg_top.specs.Checked.{Checked, standing_line}
use Rattle.mg_top.specs.Built.{Built, collection_of}
use Rattle.mg_decode.specs.Decoded.{Decoded, WithinHead}
use Rattle.mg_decode.proofs.CallerLemmas.{nothing_within}
use Rattle.mg_session.specs.Matched.{Matched}
use Rattle.mg_top.specs.Merged.{Merged}
use Rattle.mg_top.specs.Migrated.{Migrated, documents_line}
use Rattle.mg_session.specs.Phrased.{Phrased}
use Rattle.mg_session.specs.Queried.{Queried}
use Rattle.mg_plain.specs.Scanned.{Scanned}
use Rattle.mg_top.specs.Trials.{TrialStops}
use Rattle.mg_top.specs.Tried.{Tried}
use Rattle.mg_top.specs.Does.{Does, NotUnderstood, Ran}

module _ (run : Run) (stops : Stops run Memory) (store : run.store_now ≡ run.store) (input : run.input_now ≡ run.input) (out : run.out_now ≡ run.out) where
  not_done : run.status ≡ Done → ⊥
  not_done is = let bad : Stopped Memory ≡ Done = sym stops ∙ is in cc

  not_usage : Stops run Usage → ⊥
  not_usage is = let bad : Stopped Memory ≡ Stopped Usage = sym stops ∙ is in cc

  not_read : Stops run ReadFault → ⊥
  not_read is = let bad : Stopped Memory ≡ Stopped ReadFault = sym stops ∙ is in cc

  silent : SaysNothing run
  silent = ap (λ s. s.written) out

  files : KeepsFiles run
  files = ap (λ s. s.files) store

  prefix : (text : List ℕ) → GrewByPrefix run.out.written run.out_now.written text
  prefix text = subst (λ (w : Option (List ℕ)). GrewByPrefix run.out.written w text) (sym silent) (grew_nothing run.out.written text)

  caused : (P : Fault → Type 0) → P Memory → IfStopped run.status P
  caused P holds = subst (λ (s : Status). IfStopped s P) (sym stops) holds

  same_reads : (p : Part) → run.store_now.reads p ≡ run.store.reads p
  same_reads p = ap (λ s. s.reads p) store

  not_understood : NotUnderstood run
  not_understood = record { status = inr stops; store = store; input = input; out = out }

  scanned : (n : List ℕ) → Scanned n run
  scanned n = record {
    done = λ told given some is. absurd (not_done is);
    left = λ given some is. absurd (not_done is);
    within = λ given some is. absurd (not_done is);
    prefix = λ told given some. prefix (session (bytes_at run.store.files n) given);
    in_turn = λ told. none_in_turn Commands (reply (bytes_at run.store.files n)) (ap (λ s. s.left) input) silent;
    broken = λ told is given some. absurd (not_read is);
    silent = λ is. silent;
    silent_large = λ size most is. silent;
    cause = caused (ScanStops n (StoreFailed run) (InputFailed run) (OutputFailed run) run.store.files run.input.left) tt;
    missing = λ told none. inr (inr stops);
    large = λ told more. inr (inr stops);
    complete = λ bytes given there small some short no_store no_input no_output. inr stops;
    files = files;
    reads = λ p other. same_reads p;
  }

  lacks : LacksAtOnce run
  lacks = record { status = stops; store = store; out = out }

  prints : (text : List ℕ) → Prints text run
  prints text = record { whole = λ is. absurd (not_done is); prefix = prefix text }

  made : (n base : List ℕ) (budget : ℕ) → Built n base budget run
  made n base budget = record { made = inl lacks; prints = λ told. prints (summary_text (collection_of n run) budget); input = input }

  -- a session, whatever it prints and counts, of which nothing was read
  served : (text : List ℕ → List ℕ → List ℕ) (hearing : Hearing) (reply : List ℕ → Settings → List ℕ → List ℕ) (IsWithin : TextCode → List ℕ → List ℕ → Reads → Reads → Type 0) (IsUnread : Part → Type 0) (IsCounted : Option Files → List ℕ → ℕ → Type 0) (n : List ℕ) →
      ((code : TextCode) (c given : List ℕ) → IsWithin code c given run.store.reads run.store_now.reads) → Served text hearing reply IsWithin IsUnread IsCounted n run
  served text hearing reply IsWithin IsUnread IsCounted n within = record {
    done = λ c given stands some is. absurd (not_done is);
    left = λ given some is. absurd (not_done is);
    within = λ given some is. absurd (not_done is);
    prefix = λ c given stands some. prefix (text c given);
    in_turn = λ c stands. none_in_turn hearing (reply c) (ap (λ s. s.left) input) silent;
    broken = λ c given stands some is. absurd (not_read is);
    silent = λ fault first is. silent;
    untouched = λ fault first is. ap (λ s. s.left) input;
    cause = caused (serves.ServeStops IsCounted n (StoreFailed run) (InputFailed run) (OutputFailed run) run.store.files run.input.left) tt;
    not_built = λ told none. inr (inr stops);
    files = files;
    pages = λ head code c given stands some. within code c given;
    unread = λ p never. same_reads p;
    head_page = rw (same_reads part.Head) (omega arith);
  }

  nothing_looked : (places : ℕ) → ReadsLexicon run.store.reads run.store_now.reads places
  nothing_looked places = record { places_read = rw (same_reads part.LexAt) (omega arith); strings_read = rw (same_reads part.Lex) (omega arith) }

  nothing_allowed : (most : PartPages) → ReadsAllowed most run.store.reads run.store_now.reads
  nothing_allowed most = record {
    post = rw (same_reads part.Post) (omega arith);
    skip = rw (same_reads part.Skip) (omega arith);
    weights = rw (same_reads part.Weights) (omega arith);
  }

  queried : (n : List ℕ) → Queried n run
  queried n = record {
    served = served session Commands reply ReadsWithin NeverRead serves.CountsNone n (λ code c given.
        record { allowed = nothing_allowed _; looked = nothing_looked _; text = rw (same_reads part.Text) (omega arith) });
    printed = λ given told some is. absurd (not_done is);
    answered_broken = λ given told some is. absurd (not_read is);
    complete = λ c given stands some short no_store no_input no_output. inr stops;
    texts_unread = λ given some asks p is. same_reads p;
  }

  phrased : (n : List ℕ) → Phrased n run
  phrased n = record {
    served = served phrase_session Questions (λ c now. phrase_reply c) ReadsPhrases NeverRead serves.CountsNone n (λ code c given.
        record { allowed = nothing_allowed _; looked = nothing_looked _; text = rw (same_reads part.Text) (omega arith) });
    printed = λ given told some is. absurd (not_done is);
    answered_broken = λ given told some is. absurd (not_read is);
    complete = λ c given stands some short no_store no_input no_output. inr stops;
  }

  matched : (n : List ℕ) → Matched n run
  matched n = record {
    served = served wild_session Questions (λ c now. wild_reply c) ReadsPatterns NeverReadByPatterns CountsTooMany n (λ code c given. record { post = rw (same_reads part.Post) (omega arith) });
    too_many = λ count told terms. inr (inr stops);
    many = λ c stands more. inr (inr stops);
    complete = λ c given stands few some short no_store no_input no_output. inr stops;
  }

  decoded : (n : List ℕ) → Decoded n run
  decoded n = record {
    done = λ c stands is. absurd (not_done is);
    prefix = λ c stands. prefix c;
    silent = λ is. silent;
    early = λ is. inl (silent, same_reads part.Text);
    bounded = λ told. subst (WithinHead run.store.files n run.out.written) (sym silent) (nothing_within run.store.files n run.out.written);
    cause = caused (DecodeStops (StoreFailed run) (OutputFailed run) run.store.files n) tt;
    not_built = λ told none. inr (inr stops);
    complete = λ c stands no_store no_output. inr stops;
    files = files;
    reads = λ p other. same_reads p;
    input = input;
  }

  checked : (n : List ℕ) → Checked n run
  checked n = record { found = inl lacks; prints = λ c stands. prints (standing_line c); input = input }

  migrated : (n m : List ℕ) → Migrated n m run
  migrated n m = record { made = inl lacks; prints = λ c stands. prints (documents_line c); input = input }

  merged : (a b m : List ℕ) → Merged a b m run
  merged a b m = record { joined = inl lacks; prints = λ version cap c d one two. prints (summary_text (join c d) (budget_of cap)); input = input }

  tried : (seed docs : ℕ) → Tried seed docs run
  tried seed docs = record {
    done = λ is. absurd (not_done is);
    prefix = prefix (trial_text seed docs);
    silent = caused (SilentOnOutput run) (inl silent);
    cause = caused (TrialStops ⊥ (OutputFailed run) (made_collection seed docs)) tt;
    large = λ more. inr stops;
    documents = λ few passes. inr stops;
    pieces = λ stream word few passes. inr stops;
    complete = λ few within no_output. inr stops;
    store = store;
    input = input;
  }

  pub nothing_done : (task : Option Task) → Does task run
  nothing_done None = not_understood
  nothing_done (Some (build c n b)) = made c n b
  nothing_done (Some (query n)) = queried n
  nothing_done (Some (decode n)) = decoded n
  nothing_done (Some (scan n)) = scanned n
  nothing_done (Some (trial s d)) = tried s d
  nothing_done (Some (migrate n m)) = migrated n m
  nothing_done (Some (check n)) = checked n
  nothing_done (Some (wild n)) = matched n
  nothing_done (Some (phrase n)) = phrased n
  nothing_done (Some (merge a b c)) = merged a b c

  -- memory was wanting before the words were read
  pub ran_nothing : (words : List Word) → ToldWhy run.status run.err.written run.err_now.written run.err.faults run.err_now.faults run.err.lacks run.err_now.lacks → Ran words run
  ran_nothing words told = record {
    usage = λ is. absurd (not_usage is);
    does = nothing_done (task_of words);
    told = told;
  }
