use Rattle.std.proofs.Common.{Result, Err, ap}
use Rattle.pv_base.specs.declared.Name.{Name}
use Rattle.pv_names.specs.declared.NamesFault.{NamesFault}
use Rattle.std.proofs.lemmas.Result.{err_from_is_err_and}
use Rattle.pv_tokens.specs.Progress as p
use Rattle.pv_tokens.specs.Progress.{Progress, progress}
use Rattle.pv_tokens.proofs.ProgressLaws.{with_put, number_step, number_stops, name_step, name_stops}
use Rattle.pv_tokens.proofs.reading.read_piece.Goals as goal

abbrev failed : NamesFault → Result Name NamesFault
failed f = Err f

pub returns-in-Blank-clause-step : goal.returns-in-Blank-clause-step
returns-in-Blank-clause-step c =
    let s = progress c.args.at c.args.names.now c.args.lexemes.now in
    p.blank {s = s} c.in-Blank.ensures.shows

pub returns-in_ok-put-in-Fixed-clause-step : goal.returns-in_ok-put-in-Fixed-clause-step
returns-in_ok-put-in-Fixed-clause-step c =
    let s = progress c.args.at c.args.names.now c.args.lexemes.now in
    with_put c.args.text.now s _ c.in-Fixed.n _ _ _
    (p.fixed {s = s} c.in-Fixed.ensures.shows) c.in_ok-put-in-Fixed.ensures.to c.in_ok-put-in-Fixed.ensures.list

pub returns-in_ok-put-in-Some-clause-step : goal.returns-in_ok-put-in-Some-clause-step
returns-in_ok-put-in-Some-clause-step c =
    let s = progress c.args.at c.args.names.now c.args.lexemes.now in
    with_put c.args.text.now s _ c.in-Number.n _ _ _
    (number_step c.args.text.now s c.in-Number.n c.in-Some.value _ c.in-Number.ensures.shows c.part.ensures c.in-Some.ensures.0
    c.in-Some.ensures.1)
    c.in_ok-put-in-Some.ensures.to c.in_ok-put-in-Some.ensures.list

pub returns-in-None-clause-stop : goal.returns-in-None-clause-stop
returns-in-None-clause-stop c = λ _.
    let s = progress c.args.at c.args.names.now c.args.lexemes.now in
    number_stops c.args.text.now s c.in-Number.n _ c.in-Number.ensures.shows c.part.ensures c.in-None.ensures

pub returns-in_ok-put-in-Word-clause-step : goal.returns-in_ok-put-in-Word-clause-step
returns-in_ok-put-in-Word-clause-step c =
    let s = progress c.args.at c.args.names.now c.args.lexemes.now in
    with_put c.args.text.now s _ c.in-Word.n _ _ _
    (name_step c.args.text.now s c.in-Word.n _ _ _ c.in-Word.ensures.shows c.part-in-Word.ensures
    c.in_ok-name-in-Word.ensures.number c.in_ok-name-in-Word.ensures.list
    (λ full. let e = c.in_ok-name-in-Word.ensures.full.1 full in absurd cc))
    c.in_ok-put-in-Word.ensures.to c.in_ok-put-in-Word.ensures.list

pub returns-in_err-name-in-Word-clause-stop : goal.returns-in_err-name-in-Word-clause-stop
returns-in_err-name-in-Word-clause-stop c =
    let s = progress c.args.at c.args.names.now c.args.lexemes.now in
    let r = err_from_is_err_and c.from_residual-in_err-name-in-Word.result c.from_residual-in_err-name-in-Word.ensures.1 in
    rw r.1 (name_stops c.args.text.now s c.in-Word.n _ _ r.0 c.in-Word.ensures.shows c.part-in-Word.ensures r.2
    (λ e. c.in_err-name-in-Word.ensures.full.0 (ap (λ (f : NamesFault). failed f) e)))

pub returns-in-OpenComment-clause-stop : goal.returns-in-OpenComment-clause-stop
returns-in-OpenComment-clause-stop c = λ _.
    let s = progress c.args.at c.args.names.now c.args.lexemes.now in
    p.open_comment {s = s} c.in-OpenComment.ensures.shows

pub returns-in-Nothing-clause-stop : goal.returns-in-Nothing-clause-stop
returns-in-Nothing-clause-stop c = λ _.
    let s = progress c.args.at c.args.names.now c.args.lexemes.now in
    p.bad_byte {s = s} c.in-Nothing.ensures.shows
