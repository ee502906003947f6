use Rattle.std.proofs.Common.{sym, arith}
use Rattle.vercors.proofs.TextLemmas.{Found, found_here, spelled_here, refused_by_tokens, refused_by_grammar, none_by_grammar, no_refusal, refused_by_program, none_by_program}
use Rattle.vercors.proofs.reading.read_program.Goals as goal

pub returns-in_err-found-clause-refused : goal.returns-in_err-found-clause-refused
returns-in_err-found-clause-refused c =
    refused_by_tokens c.args.text.now c.args.names.now c.in_err-found.field-0.0 c.from_residual.result c.requires.no_names
    c.in_err-found.ensures.fault c.in_err-found.ensures.accepts c.in_err-found.ensures.refuses c.from_residual.ensures.1

pub returns-in_err-program-clause-refused : goal.returns-in_err-program-clause-refused
returns-in_err-program-clause-refused c =
    let f : Found c.args.text.now c.tokens.new.names c.in_ok-found.found =
    found_here c.args.text.now c.args.names.now c.tokens.new.names c.in_ok-found.found c.requires.no_names
    c.in_ok-found.ensures.tokens c.in_ok-found.ensures.length c.in_ok-found.ensures.accepts c.in_ok-found.ensures.refuses
    c.in_ok-found.ensures.end in
    refused_by_grammar c.args.text.now c.tokens.new.names c.in_ok-found.found c.in_err-program.field-0.0
    c.from_residual-in_err-program.result f c.in_err-program.ensures.reads
    (λ names p spells. c.in_err-program.ensures.accepts p (spelled_here f names p spells))
    c.from_residual-in_err-program.ensures.1

pub returns-in_err-program-clause-none : goal.returns-in_err-program-clause-none
returns-in_err-program-clause-none c =
    let f : Found c.args.text.now c.tokens.new.names c.in_ok-found.found =
    found_here c.args.text.now c.args.names.now c.tokens.new.names c.in_ok-found.found c.requires.no_names
    c.in_ok-found.ensures.tokens c.in_ok-found.ensures.length c.in_ok-found.ensures.accepts c.in_ok-found.ensures.refuses
    c.in_ok-found.ensures.end in
    none_by_grammar c.args.text.now c.in_err-program.field-0.0 c.from_residual-in_err-program.result
    (λ names p spells. c.in_err-program.ensures.accepts p (spelled_here f names p spells))
    c.from_residual-in_err-program.ensures.1

pub returns-in_err-check_program-clause-refused : goal.returns-in_err-check_program-clause-refused
returns-in_err-check_program-clause-refused c =
    let f : Found c.args.text.now c.tokens.new.names c.in_ok-found.found =
    found_here c.args.text.now c.args.names.now c.tokens.new.names c.in_ok-found.found c.requires.no_names
    c.in_ok-found.ensures.tokens c.in_ok-found.ensures.length c.in_ok-found.ensures.accepts c.in_ok-found.ensures.refuses
    c.in_ok-found.ensures.end in
    refused_by_program f c.in_ok-program.program c.in_ok-program.ensures.reads
    (λ names other spells. c.in_ok-program.ensures.accepts other (spelled_here f names other spells))
    c.in_err-check_program.field-0.0 c.from_residual-in_err-check_program.result c.in_err-check_program.ensures.refuses
    c.from_residual-in_err-check_program.ensures.1

pub returns-in_err-check_program-clause-none : goal.returns-in_err-check_program-clause-none
returns-in_err-check_program-clause-none c =
    let f : Found c.args.text.now c.tokens.new.names c.in_ok-found.found =
    found_here c.args.text.now c.args.names.now c.tokens.new.names c.in_ok-found.found c.requires.no_names
    c.in_ok-found.ensures.tokens c.in_ok-found.ensures.length c.in_ok-found.ensures.accepts c.in_ok-found.ensures.refuses
    c.in_ok-found.ensures.end in
    none_by_program c.args.text.now c.in_ok-program.program
    (λ names other spells. c.in_ok-program.ensures.accepts other (spelled_here f names other spells))
    c.in_err-check_program.field-0.0 c.from_residual-in_err-check_program.result c.in_err-check_program.ensures.refuses
    c.from_residual-in_err-check_program.ensures.1

pub returns-clause-one : goal.returns-clause-one
returns-clause-one c = λ names other spells.
    let f : Found c.args.text.now c.tokens.new.names c.in_ok-found.found =
    found_here c.args.text.now c.args.names.now c.tokens.new.names c.in_ok-found.found c.requires.no_names
    c.in_ok-found.ensures.tokens c.in_ok-found.ensures.length c.in_ok-found.ensures.accepts c.in_ok-found.ensures.refuses
    c.in_ok-found.ensures.end in
    sym (c.in_ok-program.ensures.accepts other (spelled_here f names other spells.spells))

pub returns-clause-unrefused : goal.returns-clause-unrefused
returns-clause-unrefused c =
    let f : Found c.args.text.now c.tokens.new.names c.in_ok-found.found =
    found_here c.args.text.now c.args.names.now c.tokens.new.names c.in_ok-found.found c.requires.no_names
    c.in_ok-found.ensures.tokens c.in_ok-found.ensures.length c.in_ok-found.ensures.accepts c.in_ok-found.ensures.refuses
    c.in_ok-found.ensures.end in
    no_refusal f c.in_ok-program.program c.in_ok-program.ensures.reads
    (λ names other spells. c.in_ok-program.ensures.accepts other (spelled_here f names other spells))
    c.in_ok-check_program.ensures.passes

pub returns-clause-well_formed : goal.returns-clause-well_formed
returns-clause-well_formed c =
    let found = c.in_ok-found.found in
    let program = c.in_ok-program.program in
    let spelled = c.in_ok-program.ensures.reads in
    let few = c.few_literals.ensures.few found.length found.items program spelled in
    record {
      rules = c.in_ok-check_program.ensures.passes.rules;
      shapes = c.in_ok-check_program.ensures.passes.shapes;
      few = omega (arith, few, c.in_ok-found.ensures.few, c.requires.short);
      small = c.few_literals.ensures.small found.length found.items program spelled c.in_ok-found.ensures.numbers;
    }
