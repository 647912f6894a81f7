-- Laws by subject: load; air; flow.
pub mod LoadLaws
pub mod AirLaws
pub mod FlowLaws
pub mod FlowLists
