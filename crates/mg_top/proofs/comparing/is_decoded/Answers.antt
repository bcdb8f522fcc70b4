use Rattle.std.proofs.Common.{rules, ◌≡◌, ◌∙◌, refl}
use Rattle.mg_top.proofs.TrialSteps.{decode_lacks, never_rose, no_sink, no_source, put_first, same_bytes, told_same}
use Rattle.mg_top.proofs.comparing.is_decoded.Goals as goal

pub returns-in-Ok-clause-same : goal.returns-in-Ok-clause-same
returns-in-Ok-clause-same g c =
    let decoded = c.in-Ok.ensures.decoded no_source no_sink no_sink in
    let same : c.bytes.result.now ≡ c.args.text.now =
    told_same _ _ _ c.bytes.ensures (put_first _ _ _ c.new-out.ensures.written (decoded.done c.args.text.now c.requires.stands refl)) in
    c.eq.ensures ∙ same_bytes _ _ same

pub returns-in-Ok-clause-files : goal.returns-in-Ok-clause-files
returns-in-Ok-clause-files g c = (c.in-Ok.ensures.decoded no_source no_sink no_sink).files

pub returns-clause-stops : goal.returns-clause-stops
returns-clause-stops g c = record {
  cause = decode_lacks _ _ _ _ c.args.text.now c.in-Err.fault never_rose c.requires.stands (c.in-Err.ensures.decoded no_source no_sink no_sink).cause;
  later = search rules;
}

pub returns-clause-files : goal.returns-clause-files
returns-clause-files g c = (c.in-Err.ensures.decoded no_source no_sink no_sink).files
