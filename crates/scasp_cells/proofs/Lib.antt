-- What the walks of `segment` share, and in `Filling` what the answers of `cells` do.
mod Element
mod Opens
mod Shows
mod Contracts
mod Filling
