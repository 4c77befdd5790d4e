use Rattle.session_archives.proofs.Opened.{opened_formed, opened_ready}
use Rattle.session_archives.proofs.laws.opened_worlds_have_their_forms.Goals as goal

pub returns-clause-lines : goal.returns-clause-lines
returns-clause-lines c = λ w bytes lines says has changes cell begins group volumes asks.
    opened_formed (record { ports = c.a_configuration_has_its_forms.ensures.ports; cell = c.a_configuration_has_its_forms.ensures.cell; apart = c.ports_of_a_configuration_are_apart.ensures.apart }) w bytes says changes cell begins has group (volumes asks)

pub returns-clause-ready : goal.returns-clause-ready
returns-clause-ready c = λ w bytes moments lines says changes cell begins fit.
    opened_ready (record { ports = c.a_configuration_has_its_forms.ensures.ports; cell = c.a_configuration_has_its_forms.ensures.cell; apart = c.ports_of_a_configuration_are_apart.ensures.apart }) w bytes says changes cell begins moments lines fit

pub returns-clause-fit : goal.returns-clause-fit
returns-clause-fit c = λ w ready. ready.order.fit
