mod Linked
mod Counting
mod Wants
mod CutOff
mod Sent
mod AllRounds
mod StillToSend
mod ReachedByWalks
mod ReceiverFound
pub mod Walks
pub mod Best
pub mod Labels
pub mod Receiver
pub mod LeastWay
pub mod Path
pub mod Units
pub mod Along
pub mod Ends
pub mod OutMinusIn
pub mod Round
pub mod Depths
pub mod Slacks
pub mod LabelBounds
pub mod NetworkEnds
pub mod Wanting
pub mod CallerLemmas
mod ExamplesOfWalks
mod Examples
mod ExamplesOfSending
mod ExamplesOfLabels
mod EpochExamples
mod ResidualArcs
mod Optimum
mod Supply
mod BestWithin
mod SourceLabels
mod LeastLengths
mod Unique
mod LabelledRounds
pub mod ShortWalks
pub mod LabelsExist
pub mod SourceLabelsExist
pub mod RoundLabels
mod LeastEpochsExist
mod SinkEpochs
mod RoundEpochs
mod SourceTarget
mod SendingArcs
mod NearArcs
mod SendingSearch
mod StaleVertices
mod RoundLeft
mod SendingPath
mod ReachedVertices
mod SendingUnits
mod SendingExamples
mod IncidenceLists
mod IncidenceRows
mod NearRows
mod ProgressNetworks
mod ProgressSender
mod ProgressUnits
pub mod RoundsSent
mod ProgressPotentials
mod SolvingEpochs
mod ProgressExamples
mod SearchTests
mod PassSteps
mod PassPins
mod PassRounds
mod AgreedLabels
mod Costs
mod OldLabels
mod FirstOffers
mod FreshLabels
mod RiseLists
mod QueuedOffers
mod AddedOffers
mod AheadVertices
mod OpenArcs
mod FirstLabels
mod Halfway
mod HalfwaySteps
mod RaisedLabels
mod RevivedVertices
