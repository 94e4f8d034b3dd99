-- That an outcome has few messages and calls is one fact: it has one proof at most. Definitions only.
use denote.Struct.Props as logic
use Rattle.delivery.specs.Delivery.{Told, Done, Refused, Waiting}
use Rattle.bridge.specs.Bridge.{Few}

pub few_prop : (o : Told) → IsProp (Few o)
few_prop (Done ms cs used saved) = Prim.hlevel logic.props
few_prop (Refused why) = Prim.hlevel logic.props
few_prop (Waiting c) = Prim.hlevel logic.props
