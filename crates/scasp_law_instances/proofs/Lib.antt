mod InstanceLemmas
mod ModelLemmas
